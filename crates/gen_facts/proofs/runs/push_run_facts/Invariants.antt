use Rattle.std.proofs.Common.{◌≡◌, ◌++◌, map, take}
use Rattle.std.specs.List.{range_with_len}
use Rattle.gen_convict.specs.Evidence.{told_of}
use Rattle.gen_facts.specs.Facts.{conviction_fact, decision_fact, finding_fact, status_fact}
use Rattle.gen_facts.proofs.runs.push_run_facts.Given as goal

abbrev pub invariant-loop-number : goal.invariant-loop-number
invariant-loop-number l = l.facts.items ≡ l.initial.facts.items ++ map (status_fact l.run l.faulty l.findings (map told_of l.convictions)) (range_with_len 0 l.number)

abbrev pub invariant-loop-decision : goal.invariant-loop-decision
invariant-loop-decision l = l.facts.items ≡ l.initial.facts.items ++ map (decision_fact l.run) (take l.decision-index l.decisions)

abbrev pub invariant-loop-finding : goal.invariant-loop-finding
invariant-loop-finding l = l.facts.items ≡ l.initial.facts.items ++ map (finding_fact l.run) (take l.finding-index l.findings)

abbrev pub invariant-loop-evidence : goal.invariant-loop-evidence
invariant-loop-evidence l = l.facts.items ≡ l.initial.facts.items ++ map (conviction_fact l.run) (map told_of (take l.evidence-index l.convictions))

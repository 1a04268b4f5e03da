use Rattle.std.proofs.Common.{◌≡◌, map, take}
use Rattle.gen_facts.specs.Facts.{decided_fact}
use Rattle.gen_facts.proofs.fact.decision_facts.Given as goal

abbrev pub invariant-loop-decision : goal.invariant-loop-decision
invariant-loop-decision l = l.facts.items ≡ map decided_fact (take l.decision-index l.decisions)

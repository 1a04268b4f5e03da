use Rattle.std.proofs.Common.{◌≡◌, ◌+◌, ◌++◌, length}
use Rattle.gen_judging.specs.AuditFacts.{runs_facts}
use Rattle.gen_judging.proofs.facts.push_all_runs.Given as goal

abbrev pub invariant-runs : goal.invariant-runs
invariant-runs l = record {
  told : l.facts.items ++ runs_facts l.place l.runs l.rest ≡ l.fn.facts.items ++ runs_facts 0 l.bundles l.judgements;
  few : l.place + length l.runs ≡ length l.bundles;
}

abbrev pub decreases-runs : goal.decreases-runs
decreases-runs l = length l.runs

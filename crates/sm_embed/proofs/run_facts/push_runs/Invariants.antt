use Rattle.std.proofs.Common.{◌≡◌, ◌++◌, map}
use Rattle.std.specs.List.{flat_map, range_with_len}
use Rattle.gen_enrolling.specs.Admitted.{told_run}
use Rattle.sm_embed.specs.RunFacts.{facts_at}
use Rattle.sm_embed.proofs.run_facts.push_runs.Given as goal

abbrev pub invariant-places : goal.invariant-places
invariant-places l =
    l.facts.items ≡ l.initial.facts.items ++ flat_map (facts_at l.system (map told_run l.runs)) (range_with_len 0 l.place)

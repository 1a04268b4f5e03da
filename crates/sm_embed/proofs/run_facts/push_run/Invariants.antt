use Rattle.std.proofs.Common.{◌≡◌, ◌++◌, map}
use Rattle.std.specs.Prelude.{slice_index_or}
use Rattle.std.specs.List.{range_with_len}
use Rattle.sm_embed.specs.RunFacts.{node_fact}
use Rattle.sm_embed.proofs.run_facts.push_run.Given as goal

abbrev pub invariant-generals : goal.invariant-generals
invariant-generals l =
    l.facts.items ≡ l.initial.facts.items ++ map (λ general. node_fact l.run general (slice_index_or l.nodes general 0)) (range_with_len 0 l.general)

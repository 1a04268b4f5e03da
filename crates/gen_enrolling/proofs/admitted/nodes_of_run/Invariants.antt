use Rattle.std.proofs.Common.{◌≡◌, map}
use Rattle.std.specs.List.{range_with_len}
use Rattle.gen_system.specs.Runs.{node_of}
use Rattle.gen_enrolling.proofs.admitted.nodes_of_run.Given as goal

abbrev pub invariant-generals : goal.invariant-generals
invariant-generals l = l.nodes.items ≡ map (λ general. node_of l.system l.run general) (range_with_len 0 l.general)

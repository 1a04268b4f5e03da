use Rattle.std.proofs.Common.{◌≡◌}
use Rattle.std.specs.List.{range_with_len}
use Rattle.gen_general.specs.Driving.{decided_of}
use Rattle.gen_world.proofs.world.decide_all.Given as goal

abbrev pub invariant-parts : goal.invariant-parts
invariant-parts l = l.decisions.items ≡ decided_of l.scenario (range_with_len 0 l.index)

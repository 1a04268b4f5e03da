use Rattle.std.proofs.Common.{◌≡◌}
use Rattle.gen_net.specs.Network.{rounds}
use Rattle.row_calls.proofs.values_rounds.play.Given as goal

abbrev pub invariant-rounds : goal.invariant-rounds
invariant-rounds l = l.lieutenant.rounds ≡ rounds l.net

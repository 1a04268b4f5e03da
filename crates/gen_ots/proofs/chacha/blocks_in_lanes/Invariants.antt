use Rattle.std.proofs.Common.{◌≡◌, ℕ, ◌<◌}
use Rattle.rand_chacha.specs.Block.{double_rounds}
use Rattle.rand_chacha.specs.Lanes.{lane}
use Rattle.sha_lanes.specs.declared.words.TheConstants.{LANES}
use Rattle.gen_ots.proofs.chacha.blocks_in_lanes.Given as goal

abbrev pub invariant-rounds : goal.invariant-rounds
invariant-rounds l = (j : ℕ) → j < LANES → lane j l.state ≡ double_rounds l._done (lane j l.first)

use Rattle.std.proofs.Common.{ℕ, ◌<◌, ◌+◌, ◌∷◌}
use Rattle.sha_lanes.specs.Hashers.{HoldsLane}
use Rattle.sha_lanes.specs.declared.words.TheConstants.{LANES}
use Rattle.gen_ots.specs.OneTime.{first_images}
use Rattle.gen_ots.proofs.keys.leaf_values.Given as goal

abbrev pub invariant-bits : goal.invariant-bits
invariant-bits l = (j : ℕ) → j < LANES → HoldsLane j l.hashers
    (1 ∷ first_images (record { seed = l.seed; height = l.fn.height; leaf = l.first + j }) l.bit)

use Rattle.std.proofs.Common.{◌*◌, ◌∷◌}
use Rattle.sha_lanes.specs.One.{HoldsOne}
use Rattle.sha_lanes.specs.declared.words.TheConstants.{LANES}
use Rattle.gen_ots.specs.OneTime.{first_images}
use Rattle.gen_ots.proofs.keys.OneTimeKey.leaf_value.Given as goal

abbrev pub invariant-turns : goal.invariant-turns
invariant-turns l = HoldsOne l.hasher (1 ∷ first_images l.self.name (LANES * l.turn))

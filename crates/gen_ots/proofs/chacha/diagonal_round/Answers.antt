use Rattle.std.proofs.Common.{◌∙◌, ap}
use Rattle.gen_ots.proofs.QuarterRounds.{diagonal-turned, turned-back}
use Rattle.gen_ots.proofs.chacha.diagonal_round.Goals as goal

pub returns : goal.returns
returns c j below = ap turned-back (c.column_round.ensures j below) ∙ diagonal-turned _

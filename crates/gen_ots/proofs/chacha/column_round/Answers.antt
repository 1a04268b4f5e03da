use Rattle.std.proofs.Common.{◌∙◌, ap}
use Rattle.gen_ots.specs.Blocks.{half_rounds}
use Rattle.gen_ots.proofs.QuarterRounds.{column-halves}
use Rattle.gen_ots.proofs.chacha.column_round.Goals as goal

pub returns : goal.returns
returns c j below =
    c.half_rounds.ensures j below ∙ ap (half_rounds 8 7) (c.half_rounds-half.ensures j below) ∙ column-halves _

use Rattle.std.proofs.Common.{below_more}
use Rattle.gen_combine.proofs.Rules.{fails, is_median, not_at_least}
use Rattle.gen_combine.proofs.combining.median.Goals as goal

pub rising-preserved : goal.rising-preserved
rising-preserved c =
    let below = fails _ _ c.reaches_half.ensures.greatest c.rising-test.true in (
      not_at_least 15 c.rising.number below,
      below_more _ _ c.rising.invariant.1 (fails _ _ c.reaches_half.ensures.half.1 c.rising-test.true),
    )

pub returns : goal.returns
returns c =
    is_median c.args.decided.now c.rising.number c.at.result c.at.ensures
    (c.reaches_half.ensures.half.0 c.rising-test.false) c.rising.invariant.1

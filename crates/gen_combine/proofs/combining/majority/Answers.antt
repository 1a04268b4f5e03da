use Rattle.std.proofs.Common.{arith, below_more, inr}
use Rattle.gen_combine.proofs.Rules.{fails, none_is_of_most, none_of_item}
use Rattle.gen_combine.proofs.combining.majority.Goals as goal

pub values-preserved : goal.values-preserved
values-preserved c =
    below_more _ _ c.values.invariant
    (none_of_item c.args.decided.now c.values.value-index c.value-item.result c.values-test.true c.value-item.is
    (fails _ _ c.is_of_most.ensures.1 c.if-is_of_most.false))

pub returns : goal.returns
returns c =
    inr (none_is_of_most c.args.decided.now (λ k inside. c.values.invariant k (omega arith)), c.at.ensures)

use Rattle.std.proofs.Common.{sym, subst, arith}
use Rattle.gen_plan.proofs.Joined.{RowsBelow, least_pair, row_more, all_joined}
use Rattle.gen_plan.proofs.search.first_apart.Goals as goal

pub returns-in-Some-clause-some : goal.returns-in-Some-clause-some
returns-in-Some-clause-some c =
    least_pair c.args.graph.now c.args.faulty.now c.args.most c.at-a.result c.in-Some.b
    (subst (RowsBelow c.args.graph.now c.args.faulty.now c.args.most) (sym c.at-a.ensures) c.loop-number.invariant) c.in-Some.ensures.some

pub loop-number-preserved : goal.loop-number-preserved
loop-number-preserved c =
    row_more c.args.graph.now c.args.faulty.now c.args.most c.at-a.result c.loop-number.number c.at-a.ensures c.loop-number.invariant c.in_default.ensures.none

pub returns-clause-none : goal.returns-clause-none
returns-clause-none c =
    all_joined c.args.graph.now c.args.faulty.now c.args.most c.loop-number.number
    (omega (arith, c.loop-number-test.false, c.generals-number-end.ensures.value)) c.loop-number.invariant

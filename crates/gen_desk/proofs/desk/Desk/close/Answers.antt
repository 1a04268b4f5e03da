use Rattle.gen_desk.proofs.FiledOnce.{first_strange, all_once}
use Rattle.gen_desk.proofs.desk.Desk.close.Goals as goal

pub returns-in-Some-clause-strange : goal.returns-in-Some-clause-strange
returns-in-Some-clause-strange c =
    first_strange c.into_inner-state.result c.rows.result.now c.args.receipts.items c.in-Some.first c.rows.ensures.legal c.rows.ensures.rows
    (rw c.as_slice.ensures.value at c.in-Some.ensures.some)

pub returns-clause-filed : goal.returns-clause-filed
returns-clause-filed c =
    all_once c.into_inner-state.result c.rows.result.now c.args.receipts.items c.rows.ensures.legal c.rows.ensures.rows
    (rw c.as_slice.ensures.value at c.in-None.ensures.none)

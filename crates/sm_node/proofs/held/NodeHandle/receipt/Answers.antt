use Rattle.std.proofs.Common.{Some, sym, ap, subst}
use Rattle.sm_node.specs.EndedNode.{IsOwnReceipt}
use Rattle.sm_node.proofs.Handed.{receipt_handed}
use Rattle.sm_node.proofs.held.NodeHandle.receipt.Goals as goal

pub returns-in-Ok : goal.returns-in-Ok
returns-in-Ok c =
    let e = c.in-Ended.ending in
    let own = subst (IsOwnReceipt e.header e.log) (sym c.as_slice.ensures.value) c.in-Ok.ensures in
    receipt_handed (Some c.args.self.now) e c.as_slice.result.now c.args.room.now c.put.new.room c.put.new.count c.put.result (ap Some c.in-Ended.is) own c.put.ensures

use Rattle.std.proofs.Common.{subst}
use Rattle.std.specs.Prelude.{IfOk}
use Rattle.sm_node.specs.EndedNode.{EndedNode, IsOwnReceipt}
use Rattle.sm_node.proofs.OwnLogs.{own_receipts}
use Rattle.sm_node.proofs.ended.EndedNode.receipt_bytes.Goals as goal

pub returns-in-Ok : goal.returns-in-Ok
returns-in-Ok c =
    let i = c.self.inside in
    subst (λ (e : EndedNode). IfOk c.write_receipt.result (λ text. IsOwnReceipt e.header e.log text.items)) c.self.view_is
    (own_receipts i.header i.log c.bytes.result.now c.general-general.result c.in-Ok.receipt c.write_receipt.result c.self.invariant (λ l is. c.logs_are_read_again.ensures.whole i.header l c.net-net.ensures.header is) c.receipts_are_complete.ensures.complete c.bytes.ensures c.general-general.ensures c.in-Ok.ensures c.write_receipt.ensures)

use Rattle.std.proofs.Common.{length}
use Rattle.std.proofs.lemmas.Result.{err_from_is_err_and}
use Rattle.gen_receipt.specs.ReceiptReading.{receipts_under}
use Rattle.gen_receipt.proofs.ReceiptLoop.{fails, is_done, nothing_left, one_more, something_left}
use Rattle.gen_receipt.proofs.receipt_reading.read_each.Goals as goal

pub returns-in_err-receipt : goal.returns-in_err-receipt
returns-in_err-receipt c =
    let h = c.args.header.now in
    let total = receipts_under (length c.args.bytes.now) h c.args.bytes.now in
    let p = err_from_is_err_and c.from_residual.result c.from_residual.ensures.1 in
    rw (p.1, p.2) (fails h c.receipts.receipts.items c.receipts.rest.now c.in_err-receipt.field-0.0 total c.receipts.invariant (something_left c.receipts.rest.now c.is_empty.result c.is_empty.ensures c.receipts-test.true) c.in_err-receipt.ensures.exact)

pub receipts-preserved : goal.receipts-preserved
receipts-preserved c =
    let h = c.args.header.now in
    let total = receipts_under (length c.args.bytes.now) h c.args.bytes.now in
    rw c.in_ok-push.ensures.items
    (one_more h c.receipts.receipts.items c.receipts.rest.now (c.in_ok-receipt.receipt, c.in_ok-receipt.behind.now) total c.receipts.invariant c.in_ok-receipt.ensures.exact c.in_ok-receipt.ensures.shorter)

pub returns : goal.returns
returns c =
    let h = c.args.header.now in
    let total = receipts_under (length c.args.bytes.now) h c.args.bytes.now in
    is_done h c.receipts.receipts.items c.receipts.rest.now total c.receipts.invariant (nothing_left c.receipts.rest.now c.is_empty.result c.is_empty.ensures c.receipts-test.false)

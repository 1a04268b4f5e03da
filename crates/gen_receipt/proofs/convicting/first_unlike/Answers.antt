use Rattle.gen_receipt.specs.Convicting.{IsUnlike}
use Rattle.gen_receipt.proofs.FirstReceipts.{next_given, next_is_not}
use Rattle.gen_receipt.proofs.convicting.first_unlike.Goals as goal

pub is_unlike-requires : goal.is_unlike-requires
is_unlike-requires c =
    let Is = IsUnlike c.args.header.now c.args.first.now in
    (c.requires c.in-Some.receipt.now (next_given Is c.args.receipts.now c.receipts.rest.now c.in-Some.behind.now c.in-Some.receipt.now c.receipts.invariant c.in-Some.ensures.cases.0)).general

pub receipts-preserved : goal.receipts-preserved
receipts-preserved c =
    let Is = IsUnlike c.args.header.now c.args.first.now in
    next_is_not Is c.args.receipts.now c.receipts.rest.now c.in-Some.behind.now c.in-Some.receipt.now c.receipts.invariant c.in-Some.ensures.cases.0 (λ is. let t = c.is_unlike.ensures.1 is in let f = c.if-is_unlike.false in absurd cc)

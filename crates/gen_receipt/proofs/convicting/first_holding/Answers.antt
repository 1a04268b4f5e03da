use Rattle.gen_receipt.specs.Convicting.{HoldsFor}
use Rattle.gen_receipt.proofs.FirstReceipts.{next_given, next_is, next_is_not, none_before}
use Rattle.gen_receipt.proofs.convicting.first_holding.Goals as goal

pub receipts-init : goal.receipts-init
receipts-init c = none_before (HoldsFor c.args.header.now c.args.general) c.args.receipts.now

pub holds_for-requires : goal.holds_for-requires
holds_for-requires c =
    let Is = HoldsFor c.args.header.now c.args.general in
    (c.requires c.in-Some.receipt.now (next_given Is c.args.receipts.now c.receipts.rest.now c.in-Some.behind.now c.in-Some.receipt.now c.receipts.invariant c.in-Some.ensures.cases.0)).general

pub returns-then-holds_for-clause-some : goal.returns-then-holds_for-clause-some
returns-then-holds_for-clause-some c =
    let Is = HoldsFor c.args.header.now c.args.general in
    next_is Is c.args.receipts.now c.receipts.rest.now c.in-Some.behind.now c.in-Some.receipt.now c.receipts.invariant c.in-Some.ensures.cases.0 (c.holds_for.ensures.0 c.if-holds_for.true)

pub receipts-preserved : goal.receipts-preserved
receipts-preserved c =
    let Is = HoldsFor c.args.header.now c.args.general in
    next_is_not Is c.args.receipts.now c.receipts.rest.now c.in-Some.behind.now c.in-Some.receipt.now c.receipts.invariant c.in-Some.ensures.cases.0 (λ is. let t = c.holds_for.ensures.1 is in let f = c.if-holds_for.false in absurd cc)

use Rattle.gen_receipt.specs.Convicting.{HoldsFor}
use Rattle.gen_receipt.proofs.FirstReceipts.{are_behind, hold_for_one, is_found, is_some, not_by_one}
use Rattle.gen_receipt.proofs.convicting.evidence_by_receipts.Goals as goal

pub first_unlike-requires : goal.first_unlike-requires
first_unlike-requires c =
    are_behind c.args.header.now (HoldsFor c.args.header.now c.args.general) c.args.receipts.now c.in-Some.behind.now c.in-Some.first.now c.requires c.in-Some.ensures.some

pub returns-in_default-first_unlike-clause-none : goal.returns-in_default-first_unlike-clause-none
returns-in_default-first_unlike-clause-none c =
    not_by_one c.args.header.now c.args.general c.args.receipts.now c.in-Some.behind.now c.in-Some.first.now c.in-Some.ensures.some c.in_default-first_unlike.ensures.none

pub evidence_of_receipts-requires : goal.evidence_of_receipts-requires
evidence_of_receipts-requires c =
    let second = c.in-Some-first_unlike.ensures.some in
    hold_for_one c.args.header.now c.args.general c.args.receipts.now c.in-Some.behind.now second.0 c.in-Some.first.now c.in-Some-first_unlike.second.now c.requires c.in-Some.ensures.some second.1

pub returns-clause-found : goal.returns-clause-found
returns-clause-found c =
    let second = c.in-Some-first_unlike.ensures.some in
    is_found c.args.header.now c.args.general c.args.receipts.now c.in-Some.behind.now second.0 c.in-Some.first.now c.in-Some-first_unlike.second.now c.evidence_of_receipts.result c.in-Some.ensures.some second.1 c.evidence_of_receipts.ensures.found

pub returns-clause-some : goal.returns-clause-some
returns-clause-some c =
    let second = c.in-Some-first_unlike.ensures.some in
    is_some c.args.header.now c.args.general c.args.receipts.now c.in-Some.behind.now second.0 c.in-Some.first.now c.in-Some-first_unlike.second.now c.evidence_of_receipts.result c.in-Some.ensures.some second.1

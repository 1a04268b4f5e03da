use Rattle.std.proofs.Common.{List, Contains, sym, subst}
use Rattle.std.specs.List.{AllZip}
use Rattle.std.proofs.lemmas.List.{take_all}
use Rattle.gen_campaign.proofs.Zips.{zip_more}
use Rattle.gen_receipt.specs.declared.receipts.Receipt.{Receipt}
use Rattle.std.proofs.lemmas.List.Elements.{Contains-get_or}
use Rattle.gen_receipting.specs.Told.{IsToldOf}
use Rattle.gen_receipting.proofs.told.each_told.Goals as goal

pub told_of-requires : goal.told_of-requires
told_of-requires c =
    let r = c.index-receipts-place.result in
    (c.requires r (subst (Contains c.args.receipts.now) (sym c.index-receipts-place.is) (Contains-get_or c.args.receipts.now c.receipts.place r c.receipts-test.true))).general

pub receipts-preserved : goal.receipts-preserved
receipts-preserved c =
    rw c.in_ok-push.ensures.items (zip_more (IsToldOf c.args.header.now) c.args.receipts.now c.receipts.told.items c.receipts.place c.index-receipts-place.result c.told_of.result c.receipts-test.true c.index-receipts-place.is c.receipts.invariant c.told_of.ensures)

pub returns : goal.returns
returns c =
    subst (λ (rs : List Receipt). AllZip (IsToldOf c.args.header.now) rs c.receipts.told.items) (take_all c.receipts.place c.args.receipts.now c.receipts-test.false) c.receipts.invariant

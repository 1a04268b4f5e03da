use Rattle.std.proofs.Common.{List, subst}
use Rattle.std.specs.Prelude.{All}
use Rattle.std.proofs.lemmas.List.{take_all}
use Rattle.gen_log.specs.Writing.{LogBytes}
use Rattle.gen_receipting.specs.Giving.{GivesNone, GivesReceipt}
use Rattle.gen_receipting.proofs.Given.{first_there, known_there, none_there, of_none, of_some}
use Rattle.gen_receipting.proofs.giving.first_receipt.Goals as goal

pub receipt_in-requires : goal.receipt_in-requires
receipt_in-requires c =
    known_there c.args.header.now.network.generals c.args.exhibits.now c.exhibits.place c.index-exhibits-place.result c.requires c.exhibits-test.true c.index-exhibits-place.is

pub returns-in-Some : goal.returns-in-Some
returns-in-Some c =
    first_there c.args.header.now c.args.exhibits.now c.exhibits.place c.index-exhibits-place.result c.args.general c.in-Some.receipt _ c.exhibits-test.true c.index-exhibits-place.is c.exhibits.invariant (of_some (GivesReceipt c.args.header.now c.args.general c.index-exhibits-place.result) c.in_ok-found.found c.in-Some.receipt c.in-Some.is c.in_ok-found.ensures.found) c.in_ok-write_receipt.ensures

pub exhibits-preserved : goal.exhibits-preserved
exhibits-preserved c =
    none_there c.args.header.now c.args.exhibits.now c.exhibits.place c.index-exhibits-place.result c.args.general c.exhibits-test.true c.index-exhibits-place.is c.exhibits.invariant (of_none (GivesNone c.args.header.now c.args.general c.index-exhibits-place.result) c.in_ok-found.found c.in_default.not-Some c.in_ok-found.ensures.none)

pub returns : goal.returns
returns c =
    (subst (λ (xs : List LogBytes). All (GivesNone c.args.header.now c.args.general) xs) (take_all c.exhibits.place c.args.exhibits.now c.exhibits-test.false) c.exhibits.invariant, c.new.ensures.items)

use Rattle.std.proofs.Common.{rules, ◌≡◌, ◌∙◌, Ok, Err}
use Rattle.std.proofs.lemmas.List.{take_all}
use Rattle.gen_prepare.proofs.Parts.{held_by}
use Rattle.gen_prepare.proofs.holding.hold.Goals as goal

pub returns-in-Ok : goal.returns-in-Ok
returns-in-Ok c =
    let same : c.in_ok-header.header ≡ c.args.bundle.now.header = search rules in
    held_by c.args.bundle.now c.args.faulty c.in_ok-header.header c.in_ok-walks.walks c.sharing.exhibits.items (Ok c.in-Ok.other) c.header.ensures.bundle same (c.sharing.invariant ∙ take_all c.sharing.exhibit-index c.exhibits-own.result.now c.sharing-test.false ∙ c.exhibits-own.ensures) c.in_ok-walks.ensures c.in-Ok.ensures

pub returns-in-Err : goal.returns-in-Err
returns-in-Err c =
    let same : c.in_ok-header.header ≡ c.args.bundle.now.header = search rules in
    held_by c.args.bundle.now c.args.faulty c.in_ok-header.header c.in_ok-walks.walks c.sharing.exhibits.items (Err c.in-Err.fault) c.header.ensures.bundle same (c.sharing.invariant ∙ take_all c.sharing.exhibit-index c.exhibits-own.result.now c.sharing-test.false ∙ c.exhibits-own.ensures) c.in_ok-walks.ensures c.in-Err.ensures

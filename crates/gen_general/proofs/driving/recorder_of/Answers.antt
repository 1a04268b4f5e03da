use Rattle.std.proofs.lemmas.Result.{IfOk-at_ok}
use Rattle.gen_general.proofs.Starting.{may_start, records}
use Rattle.gen_general.proofs.driving.recorder_of.Goals as goal

pub new-requires : goal.new-requires
new-requires c = rw (c.in_ok-part.ensures, c.in_ok-ring.ensures) (may_start c.args.scenario.now c.args.general)

pub returns-in-Ok : goal.returns-in-Ok
returns-in-Ok c =
    let s = c.args.scenario.now in
    let g = c.args.general in
    let made = IfOk-at_ok _ c.in-Ok.is c.new.ensures.ok in
    let e = rw (c.in_ok-part.ensures, c.in_ok-ring.ensures) at made in
    records s g c.in-Ok.recorder c.header-lawful.ensures.scenario e

use Rattle.std.proofs.Common.{List, subst}
use Rattle.std.specs.Prelude.{All}
use Rattle.std.specs.List.{AllZip}
use Rattle.std.proofs.lemmas.List.{take_all}
use Rattle.gen_audit.specs.Bundle.{Bundle}
use Rattle.gen_campaign.proofs.Zips.{zip_more}
use Rattle.gen_judging.specs.Holding.{IsHeld}
use Rattle.gen_judging.proofs.Held.{HasAll, first_lacking, has_all, is_held, none_more}
use Rattle.gen_judging.proofs.holding.hold_all.Goals as goal

pub returns-in-Err-Fault-clause-fault : goal.returns-in-Err-Fault-clause-fault
returns-in-Err-Fault-clause-fault c =
    let why = rw c.in-Err-Fault.field-0-is at c.in-Err-Fault.ensures in
    rw c.lack_fault.ensures (first_lacking c.args.faulty c.args.alone c.args.bundles.now c.runs.place c.index-bundles-place.result c.runs-test.true c.index-bundles-place.is c.runs.invariant.1 why.1)

pub runs-preserved : goal.runs-preserved
runs-preserved c =
    let b = c.index-bundles-place.result in
    let one = c.in-Ok.one in (
      rw c.in_ok-push-in-Ok.ensures.items (zip_more (IsHeld c.args.faulty) c.args.bundles.now c.runs.held.items c.runs.place b one c.runs-test.true c.index-bundles-place.is c.runs.invariant.0 (is_held c.args.faulty b one c.in-Ok.ensures)),
      none_more c.args.faulty c.args.bundles.now c.runs.place b c.runs-test.true c.index-bundles-place.is c.runs.invariant.1 (has_all c.args.faulty b one c.in-Ok.ensures),
    )

pub returns-clause-held : goal.returns-clause-held
returns-clause-held c =
    subst (λ (bs : List Bundle). AllZip (IsHeld c.args.faulty) bs c.runs.held.items) (take_all c.runs.place c.args.bundles.now c.runs-test.false) c.runs.invariant.0

pub returns-clause-known : goal.returns-clause-known
returns-clause-known c =
    subst (λ (bs : List Bundle). All (HasAll c.args.faulty) bs) (take_all c.runs.place c.args.bundles.now c.runs-test.false) c.runs.invariant.1

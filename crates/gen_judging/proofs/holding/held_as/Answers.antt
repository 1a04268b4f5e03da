use Rattle.std.proofs.Common.{◌≡◌, All, List, ap, length, sym, subst, arith}
use Rattle.gen_audit.specs.Bundle.{Bundle}
use Rattle.gen_judging.specs.Holding.{IsHeldAs}
use Rattle.gen_asked.specs.declared.faulty.Faulty.{Faulty}
use Rattle.gen_judging.proofs.Held.{HasAll, again_held, few_held, few_shown, shown_again, shown_with}
use Rattle.gen_judging.proofs.holding.held_as.Goals as goal

pub hold_all-requires : goal.hold_all-requires
hold_all-requires c =
    let shown = c.args.campaign in
    let few = few_shown shown.alone shown.bundles c.bundles.ensures.campaign in
    let long = ap length c.bundles.ensures.value in
    omega (arith, few, long)

pub spelled-requires : goal.spelled-requires
spelled-requires c =
    few_held c.in-These.set c.args.campaign c.bundles.result.now c.in_ok-bundles.bundles.items c.as_slice.result.now c.bundles.ensures.campaign c.bundles.ensures.value c.in_ok-bundles.ensures.held c.as_slice.ensures.value

pub unreachable-requires : goal.unreachable-requires
unreachable-requires c =
    let shown = c.args.campaign in
    let held = c.in_ok-bundles.bundles.items in
    let known = subst (λ (bs : List Bundle). All (HasAll c.in-These.set) bs) c.bundles.ensures.value c.in_ok-bundles.ensures.known in
    let spelled = shown_again c.in-These.set shown c.is_alone-alone.result c.bundles.result.now held c.as_slice.result.now c.in_ok-bytes.bytes.items c.bundles.ensures.campaign c.len-count.ensures.ascending known c.is_alone-alone.ensures.value c.bundles.ensures.value c.in_ok-bundles.ensures.held c.as_slice.ensures.value c.in_ok-bytes.ensures in
    let none = rw c.in-Err-Fault.field-0-is at (c.in-Err-Fault.ensures.only (shown_with shown held) spelled) in
    cc

pub returns-in-Ok-clause-held : goal.returns-in-Ok-clause-held
returns-in-Ok-clause-held c =
    let shown = c.args.campaign in
    let held = c.in_ok-bundles.bundles.items in
    let known = subst (λ (bs : List Bundle). All (HasAll c.in-These.set) bs) c.bundles.ensures.value c.in_ok-bundles.ensures.known in
    let spelled = shown_again c.in-These.set shown c.is_alone-alone.result c.bundles.result.now held c.as_slice.result.now c.in_ok-bytes.bytes.items c.bundles.ensures.campaign c.len-count.ensures.ascending known c.is_alone-alone.ensures.value c.bundles.ensures.value c.in_ok-bundles.ensures.held c.as_slice.ensures.value c.in_ok-bytes.ensures in
    let read = c.in-Ok.ensures.only (shown_with shown held) spelled in
    let is : c.in-Ok.held ≡ shown_with shown held = cc in
    subst (λ (f : Faulty). IsHeldAs f shown c.in-Ok.held) (sym c.in-These.is) (again_held c.in-These.set shown c.bundles.result.now held c.in-Ok.held c.bundles.ensures.value c.in_ok-bundles.ensures.held is)

use Rattle.std.proofs.Common.{◌≡◌, ◌<◌, ◌≤◌, ◌+◌, ◌∙◌, sym, ap, subst}
use Rattle.std.proofs.lemmas.List.{nil_from_length}
use Rattle.gen_net.specs.Header.{RunHeader, slot_of}
use Rattle.gen_net.specs.Version.{slot_in}
use Rattle.gen_campaign.specs.Series.{ascend_from}
use Rattle.gen_campaign.proofs.Testing.{low_slot, next_slot, no_slots}
use Rattle.gen_campaign.proofs.series.have_ascending_slots.Goals as goal

pub returns-then-slot-least : goal.returns-then-slot-least
returns-then-slot-least c =
    let s = c.in-Some.scenario.now in
    let e : c.slot-slot.result ≡ slot_in s.version = c.slot-slot.ensures.value ∙ ap (λ (h : RunHeader). slot_of h) c.header.ensures.value in
    let low = subst (λ k. k < c.rest.least) e c.if-slot-least.true in
    sym (low_slot c.rest.least s c.in-Some.others.now c.rest.rest.now c.in-Some.ensures.cases.0 low) ∙ c.rest.invariant

pub rest-preserved : goal.rest-preserved
rest-preserved c =
    let s = c.in-Some.scenario.now in
    let others = c.in-Some.others.now in
    let e : c.slot-slot.result ≡ slot_in s.version = c.slot-slot.ensures.value ∙ ap (λ (h : RunHeader). slot_of h) c.header.ensures.value in
    let high = subst (λ k. c.rest.least ≤ k) e c.if-slot-least.false in
    ap (λ k. ascend_from (k + 1) others) e ∙ sym (next_slot c.rest.least s others c.rest.rest.now c.in-Some.ensures.cases.0 high) ∙ c.rest.invariant

pub returns : goal.returns
returns c = no_slots c.rest.least c.rest.rest.now (nil_from_length _ c.in_default.ensures.cases) ∙ c.rest.invariant

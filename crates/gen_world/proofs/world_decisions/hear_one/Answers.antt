use Rattle.std.proofs.Common.{◌≡◌, ◌∷◌, [], ◌<◌, ◌++◌, ◌∙◌, sym, ap, subst, true, false, length, slice_index_or, arith, inl, inr}
use Rattle.std.specs.List.{list_any}
use Rattle.std.proofs.lemmas.List.{get_or_default}
use Rattle.gen_types.proofs.Lists.{bool_cases}
use Rattle.gen_net.specs.Edges.{joins}
use Rattle.gen_general.specs.Participant.{Participant}
use Rattle.gen_general.specs.ParticipantLaws.{IsIn}
use Rattle.gen_general.specs.Driving.{hears_of}
use Rattle.gen_scenario.specs.SignedWorld.{near_of}
use Rattle.gen_general.proofs.Worlds.{near_known, at_same}
use Rattle.gen_world.proofs.ParticipantHearing.{hear_far, hear_near}
use Rattle.gen_world.proofs.world_decisions.hear_one.Goals as goal

pub returns-then-not-has_edge-clause-heard : goal.returns-then-not-has_edge-clause-heard
returns-then-not-has_edge-clause-heard c =
    let net = c.args.scenario.now.net in
    let both = rw (c.net-2.ensures.value, c.header-2.ensures.value) at c.has_edge.ensures in
    let far : list_any (joins c.args.to c.args.from) net.edges ≡ false = near_known net c.has_edge.result c.args.to c.args.from both ∙ elim (bool_cases c.has_edge.result) [ inl t ↦ absurd cc | inr f ↦ f ] in
    λ d. hear_far c.args.scenario.now c.args.gone c.args.from c.args.to (slice_index_or c.args.parts.now.items c.args.to d).heard far

pub returns-clause-heard : goal.returns-clause-heard
returns-clause-heard c =
    let s = c.args.scenario.now in
    let ps = c.args.parts.now.items in
    let both = rw (c.net-2.ensures.value, c.header-2.ensures.value) at c.has_edge.ensures in
    let near : list_any (joins c.args.to c.args.from) s.net.edges ≡ true = near_known s.net c.has_edge.result c.args.to c.args.from both ∙ elim (bool_cases c.has_edge.result) [ inl t ↦ t | inr f ↦ absurd cc ] in
    let i : c.from-2.result ≡ c.args.to = c.from-2.ensures ∙ c.get-2.ensures.value in
    let j : c.from.result ≡ c.args.from = c.from.ensures ∙ c.get.ensures.value in
    let p : c.index_mut.result.now ≡ slice_index_or ps c.args.to c.index_mut.result.now = rw i at c.index_mut.ensures.value in
    let pf : c.index.result.now ≡ slice_index_or ps c.args.from c.index.result.now = rw j at c.index.ensures in
    let is = subst (λ (x : Participant). IsIn s c.args.gone c.args.to x) (sym p) (c.requires.all.each c.args.to c.index_mut.result.now c.requires.to) in
    let by = subst (λ (x : Participant). IsIn s c.args.gone c.args.from x) (sym pf) (c.requires.all.each c.args.from c.index.result.now c.requires.from) in
    let hd = rw c.as_slice.ensures.value at c.in_ok-hear_with.ensures.ok in
    let one = hear_near s c.args.gone c.args.from c.args.to c.index_mut.result.now c.index.result.now c.hear_with.new.self _ near is by c.in_ok-parcels.ensures hd in
    let within : c.from-2.result < length ps = omega (arith, i, c.requires.to, c.requires.all.count) in
    λ d. ap (λ (x : Participant). x.heard) (at_same ps c.from-2.result c.args.to c.hear_with.new.self d within (sym i)) ∙ one
    ∙ ap (λ (x : Participant). x.heard ++ hears_of s c.args.gone c.args.to (near_of s.net c.args.to (c.args.from ∷ []))) (p ∙ get_or_default ps c.args.to c.index_mut.result.now d (omega (arith, c.requires.to, c.requires.all.count)))

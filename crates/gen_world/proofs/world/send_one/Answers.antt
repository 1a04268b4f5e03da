use Rattle.std.proofs.Common.{◌≡◌, ◌<◌, ◌∙◌, ℕ, true, false, arith, inl, inr, Contains}
use Rattle.std.specs.List.{list_any, range_with_len}
use Rattle.gen_types.specs.Members.{filter_range_has}
use Rattle.gen_types.proofs.Lists.{bool_cases}
use Rattle.gen_net.specs.Edges.{joins}
use Rattle.gen_scenario.specs.SignedWorld.{near_of}
use Rattle.gen_general.proofs.Worlds.{near_known, rows_far, rows_near}
use Rattle.gen_general.proofs.Recorders.{sent_far, sent_near}
use Rattle.gen_general.proofs.LogPlaces.{may_send}
use Rattle.gen_world.proofs.world.send_one.Goals as goal

pub returns-then-not-has_edge-clause-sent : goal.returns-then-not-has_edge-clause-sent
returns-then-not-has_edge-clause-sent c =
    let s = c.args.scenario.now in
    let both = rw (c.net-2.ensures.value, c.header-2.ensures.value) at c.has_edge.ensures in
    let far : list_any (joins c.args.from c.args.to) s.net.edges ≡ false = near_known s.net c.has_edge.result c.args.from c.args.to both ∙ elim (bool_cases c.has_edge.result) [ inl t ↦ absurd cc | inr f ↦ f ] in
    sent_far s c.args.gone c.args.from c.args.to c.args.part.now far c.requires.sent

pub returns-then-not-has_edge-clause-frames : goal.returns-then-not-has_edge-clause-frames
returns-then-not-has_edge-clause-frames c =
    let s = c.args.scenario.now in
    let both = rw (c.net-2.ensures.value, c.header-2.ensures.value) at c.has_edge.ensures in
    let far : list_any (joins c.args.from c.args.to) s.net.edges ≡ false = near_known s.net c.has_edge.result c.args.from c.args.to both ∙ elim (bool_cases c.has_edge.result) [ inl t ↦ absurd cc | inr f ↦ f ] in
    rows_far s c.args.gone c.args.from c.args.to c.args.frames.now.items far

pub send-requires-clause-next : goal.send-requires-clause-next
send-requires-clause-next c =
    let s = c.args.scenario.now in
    let tos = near_of s.net c.args.from (range_with_len 0 c.args.to) in
    let below : (t : ℕ) → Contains tos t → t < c.args.to = λ t h. omega (arith, (filter_range_has (λ x. list_any (joins c.args.from x) s.net.edges) 0 c.args.to t h).1) in
    may_send s c.header.ensures.scenario c.args.gone c.args.from c.args.to c.requires.from tos below c.args.part.now c.requires.sent

pub returns-clause-sent : goal.returns-clause-sent
returns-clause-sent c =
    let s = c.args.scenario.now in
    let both = rw (c.net-2.ensures.value, c.header-2.ensures.value) at c.has_edge.ensures in
    let near : list_any (joins c.args.from c.args.to) s.net.edges ≡ true = near_known s.net c.has_edge.result c.args.from c.args.to both ∙ elim (bool_cases c.has_edge.result) [ inl t ↦ t | inr f ↦ absurd cc ] in
    sent_near s c.args.gone c.args.from c.args.to c.args.part.now c.send.new.self near c.requires.sent c.in_ok-parcels.ensures.ok

pub returns-clause-frames : goal.returns-clause-frames
returns-clause-frames c =
    let s = c.args.scenario.now in
    let both = rw (c.net-2.ensures.value, c.header-2.ensures.value) at c.has_edge.ensures in
    let near : list_any (joins c.args.from c.args.to) s.net.edges ≡ true = near_known s.net c.has_edge.result c.args.from c.args.to both ∙ elim (bool_cases c.has_edge.result) [ inl t ↦ t | inr f ↦ absurd cc ] in
    let pushed = c.in_ok-push.ensures.items in
    rows_near s c.args.gone c.args.from c.args.to c.args.part.now.standing _ c.args.frames.now.items c.push.new.self.items near c.requires.sent.standing c.in_ok-parcels.ensures.frame pushed

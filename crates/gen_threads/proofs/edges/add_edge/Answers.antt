use Rattle.std.proofs.Common.{◌≡◌, ◌∙◌, ◌<◌, true, false, sym, refl, inl, inr, arith, Some, None}
use Rattle.std.specs.List.{list_any}
use Rattle.gen_types.proofs.Lists.{bool_cases}
use Rattle.gen_net.specs.Edges.{joins}
use Rattle.gen_general.proofs.Worlds.{near_known}
use Rattle.gen_threads.specs.declared.edges.Edges.{Edges}
use Rattle.gen_threads.specs.Building.{HasMore}
use Rattle.gen_threads.proofs.Making.{made_far, made_near, new_put, new_take, joined_back}
use Rattle.gen_threads.proofs.edges.add_edge.Goals as goal

pub returns-then-not-has_edge : goal.returns-then-not-has_edge
returns-then-not-has_edge c =
    let s = c.args.scenario.now in
    let both = rw (c.net.ensures.value, c.header.ensures.value) at c.has_edge.ensures in
    let no : c.has_edge.result ≡ false = elim (bool_cases c.has_edge.result) [ inl t ↦ absurd cc | inr f ↦ f ] in
    let far : list_any (joins c.args.from c.args.to) s.net.edges ≡ false = near_known s.net c.has_edge.result c.args.from c.args.to both ∙ no in
    let back : list_any (joins c.args.to c.args.from) s.net.edges ≡ false = near_known s.net c.has_edge.result c.args.to c.args.from (joined_back s.net c.args.from c.args.to c.has_edge.result both) ∙ no in
    let new : Edges = record { generals = c.args.edges.now.generals; table = c.push.new.self } in
    let more : HasMore None c.args.edges.now new = record { generals = refl; table = c.in_ok-push.ensures.items } in
    made_far s c.args.from c.args.to c.args.edges.now new c.args.all.now.items more far back c.requires.made

pub returns : goal.returns
returns c =
    let s = c.args.scenario.now in
    let old = c.args.edges.now in
    let both = rw (c.net.ensures.value, c.header.ensures.value) at c.has_edge.ensures in
    let is : c.has_edge.result ≡ true = elim (bool_cases c.has_edge.result) [ inl t ↦ t | inr f ↦ absurd cc ] in
    let near : list_any (joins c.args.from c.args.to) s.net.edges ≡ true = near_known s.net c.has_edge.result c.args.from c.args.to both ∙ is in
    let back : list_any (joins c.args.to c.args.from) s.net.edges ≡ true = near_known s.net c.has_edge.result c.args.to c.args.from (joined_back s.net c.args.from c.args.to c.has_edge.result both) ∙ is in
    let edge = c.in_ok-edge.edge in
    let new : Edges = record { generals = old.generals; table = c.push-2.new.self } in
    let more : HasMore (Some edge) old new = record { generals = refl; table = c.in_ok-push-2.ensures.items } in
    let low : c.args.to < old.generals = omega (arith, c.requires.to, c.requires.made.generals) in
    let cell = rw (sym c.requires.made.generals) at c.requires.made.count in
    let put = new_put s c.args.from c.args.to old new edge c.in_ok-edge.put more low cell c.in_ok-edge.ensures.passes.0 c.in_ok-edge.ensures.put in
    let take = new_take s c.args.from c.args.to old new edge c.in_ok-edge.take more low cell c.in_ok-edge.ensures.passes.1 c.in_ok-edge.ensures.taken in
    made_near s c.args.from c.args.to old new c.args.all.now.items c.add_put.new.all.items c.add_take.new.all.items edge c.in_ok-edge.put c.in_ok-edge.take more c.in_ok-add_put.ensures c.in_ok-add_take.ensures
    put take near back c.requires.from c.requires.made

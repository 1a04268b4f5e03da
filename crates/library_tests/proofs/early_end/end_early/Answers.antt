use Rattle.std.proofs.Common.{◌≡◌, ◌∙◌, ◌<◌, ◌↔◌, ℕ, Bool, true, false, sym, ap, subst, IfSome, arith}
use Rattle.gen_edge.specs.declared.passes.Edge.{Edge}
use Rattle.gen_edge.specs.Ends.{IsPutPassOf, put_view}
use Rattle.gen_edge.specs.Frames.{carried, edge_frames}
use Rattle.gen_edge.specs.Tied.{ComesNext}
use Rattle.gen_edge.proofs.RunFrames.{comes_by_pass}
use Rattle.gen_net.specs.Network.{Network, AreNeighbours}
use Rattle.gen_general.proofs.Worlds.{near_known}
use Rattle.gen_threads.specs.Edges.{HasPut, edge_at}
use Rattle.gen_threads.specs.Turns.{index_of_next}
use Rattle.gen_threads.proofs.Nears.{index_kept}
use Rattle.gen_threads.proofs.Passing.{is_that, near_at, near_inside}
use Rattle.library_tests.proofs.early_end.end_early.Goals as goal

-- where general 0 is no neighbour, general 1 is the least
least : (net : Network) (from : ℕ) (b : Bool) → ((b ≡ true) ↔ AreNeighbours net from 0) → b ≡ false → 0 ≡ index_of_next net from 1
least net from b both far = index_kept net from 0 (near_known net b from 0 both ∙ far)

pub index_mut-requires : goal.index_mut-requires
index_mut-requires g c =
    let s = c.args.scenario.now in
    let network = rw (c.net-net.ensures.value, c.header.ensures.value) at c.generals-few.ensures.network in
    let known : 1 < s.net.generals = let two = network.ranges.some_generals in omega (arith, two) in
    let both = rw (c.net-net.ensures.value, c.header.ensures.value, c.at-to.ensures) at c.has_edge.ensures in
    let first = rw (c.net-net.ensures.value, c.header.ensures.value, c.at.ensures) at c.has_edge-else-not-has_edge.ensures in
    let here = least s.net c.args.from _ first c.if-has_edge.false in
    let r = near_inside s.net c.args.from 1 known (both.0 c.if-not-has_edge.false) c.args.passes.puts.items 0 here (HasPut c.args.edges.now s 0 c.args.from) c.requires.putting in
    omega (arith, r, c.args.passes.puts.ok.0, c.args.passes.puts.ok.1)

pub put_both-requires-clause-pass : goal.put_both-requires-clause-pass
put_both-requires-clause-pass g c =
    let s = c.args.scenario.now in let edges = c.args.edges.now in let from = c.args.from in
    let network = rw (c.net-net.ensures.value, c.header.ensures.value) at c.generals-few.ensures.network in
    let known : 1 < s.net.generals = let two = network.ranges.some_generals in omega (arith, two) in
    let both = rw (c.net-net.ensures.value, c.header.ensures.value, c.at-to.ensures) at c.has_edge.ensures in
    let first = rw (c.net-net.ensures.value, c.header.ensures.value, c.at.ensures) at c.has_edge-else-not-has_edge.ensures in
    let here = least s.net from _ first c.if-has_edge.false in
    let p = c.index_mut.result.now in
    let has = near_at s.net from 1 known (both.0 c.if-not-has_edge.false) c.args.passes.puts.items 0 here (HasPut edges s 0 from) c.requires.putting p c.index_mut.ensures.value in
    let same = is_that (λ e. e.now) c.edge.result (edge_at edges from c.at-to.result) c.in-Some.edge has.on.edge c.edge.ensures (ap (λ h. edge_at edges from h) c.at-to.ensures ∙ has.on.there) c.in-Some.is in
    subst (λ (e : Edge). IsPutPassOf e p) (sym same) has.on.of_edge

pub put_both-requires-clause-next : goal.put_both-requires-clause-next
put_both-requires-clause-next g c =
    let s = c.args.scenario.now in let edges = c.args.edges.now in let from = c.args.from in
    let network = rw (c.net-net.ensures.value, c.header.ensures.value) at c.generals-few.ensures.network in
    let known : 1 < s.net.generals = let two = network.ranges.some_generals in omega (arith, two) in
    let both = rw (c.net-net.ensures.value, c.header.ensures.value, c.at-to.ensures) at c.has_edge.ensures in
    let first = rw (c.net-net.ensures.value, c.header.ensures.value, c.at.ensures) at c.has_edge-else-not-has_edge.ensures in
    let here = least s.net from _ first c.if-has_edge.false in
    let p = c.index_mut.result.now in
    let has = near_at s.net from 1 known (both.0 c.if-not-has_edge.false) c.args.passes.puts.items 0 here (HasPut edges s 0 from) c.requires.putting p c.index_mut.ensures.value in
    let comes = subst (λ o. IfSome o (λ frame. ComesNext (edge_frames s from c.at-to.result) 0 false (carried frame))) c.in-Some-2.is c.in_ok-frame.ensures in
    comes_by_pass (edge_frames s from 1) 0 (carried c.in-Some-2.frame) (put_view p) (subst (λ h. ComesNext (edge_frames s from h) 0 false (carried c.in-Some-2.frame)) c.at-to.ensures comes) (ap (λ v. v.frames) has.view) (ap (λ v. v.put) has.view) (ap (λ v. v.gone_put) has.view)

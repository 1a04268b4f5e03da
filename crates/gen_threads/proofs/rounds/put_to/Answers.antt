use Rattle.std.proofs.Common.{◌≡◌, ◌∙◌, ◌+◌, ap, false, arith, sym, subst, slice_set}
use Rattle.std.specs.List.{list_any}
use Rattle.gen_edge.specs.Frames.{Parcels, round}
use Rattle.gen_net.specs.Edges.{joins}
use Rattle.gen_general.proofs.Worlds.{near_known}
use Rattle.gen_threads.specs.Turns.{HasPutUntil}
use Rattle.gen_threads.proofs.Passing.{near_inside, is_there, is_that, near_some, near_at, near_set}
use Rattle.gen_threads.proofs.Turning.{puts_on, putting_far, putting_near, putting_next, putting_frame}
use Rattle.gen_edge.specs.declared.passes.Edge.{Edge}
use Rattle.gen_edge.specs.Ends.{IsPutPassOf}
use Rattle.gen_threads.specs.Edges.{IsPutOn, edge_at}
use Rattle.gen_threads.proofs.Carrying.{puts_next, has_put_more, put_others}
use Rattle.gen_threads.proofs.rounds.put_to.Goals as goal

pub returns-then-not-has_edge-clause-ok : goal.returns-then-not-has_edge-clause-ok
returns-then-not-has_edge-clause-ok g c =
    let s = c.args.part.now.scenario in let me = c.args.part.now.me in
    let both = rw (c.net.ensures.value, c.header.ensures.value, c.me.ensures, c.part-known.ensures.value) at c.has_edge.ensures in
    let far : list_any (joins me c.args.to) s.net.edges ≡ false = near_known s.net c.has_edge.result me c.args.to both ∙ c.if-not-has_edge.true in
    putting_far c.args.edges.now s c.args.gone me c.args.to c.args.index.now c.args.recorder.now c.args.puts.now.items far c.requires.so_far

pub returns-then-not-has_edge-clause-passes : goal.returns-then-not-has_edge-clause-passes
returns-then-not-has_edge-clause-passes g c =
    puts_on c.args.edges.now c.args.part.now.scenario c.args.gone c.args.part.now.me c.args.to c.args.puts.now.items c.requires.so_far.passes

pub send-requires-clause-next : goal.send-requires-clause-next
send-requires-clause-next g c =
    let s = c.args.part.now.scenario in let me = c.args.part.now.me in
    let lawful = c.part-known.ensures.lawful in
    let here = rw c.part-known.ensures.value at lawful.general in
    putting_next c.args.edges.now s c.args.gone me c.args.to c.args.index.now c.args.recorder.now c.args.puts.now.items lawful.lawful here c.requires.so_far

pub unwrap-edge-requires : goal.unwrap-edge-requires
unwrap-edge-requires g c =
    let edges = c.args.edges.now in let s = c.args.part.now.scenario in let me = c.args.part.now.me in let to = c.args.to in let gone = c.args.gone in
    let both = rw (c.net.ensures.value, c.header.ensures.value, c.me.ensures, c.part-known.ensures.value) at c.has_edge.ensures in
    let near = both.0 c.if-not-has_edge.false in
    let has = (near_some s.net me to c.requires.to near c.args.puts.now.items c.args.index.now c.requires.so_far.here (HasPutUntil edges s c.args.gone to me) c.requires.so_far.passes).1 in
    let who = c.me-2.ensures ∙ ap (λ k. k.me) c.part-known.ensures.value in
    is_there (λ e. e.now) c.edge.result (edge_at edges c.me-2.result to) has.on.edge c.edge.ensures (ap (λ m. edge_at edges m to) who ∙ has.on.there)

pub index_mut-requires : goal.index_mut-requires
index_mut-requires g c =
    let s = c.args.part.now.scenario in let me = c.args.part.now.me in
    let both = rw (c.net.ensures.value, c.header.ensures.value, c.me.ensures, c.part-known.ensures.value) at c.has_edge.ensures in
    let near = both.0 c.if-not-has_edge.false in
    let r = near_inside s.net me c.args.to c.requires.to near c.args.puts.now.items c.args.index.now c.requires.so_far.here (HasPutUntil c.args.edges.now s c.args.gone c.args.to me) c.requires.so_far.passes in
    omega (arith, r, c.args.puts.now.ok.0, c.args.puts.now.ok.1)

pub put_frame-requires-clause-pass : goal.put_frame-requires-clause-pass
put_frame-requires-clause-pass g c =
    let edges = c.args.edges.now in let s = c.args.part.now.scenario in let me = c.args.part.now.me in let to = c.args.to in let gone = c.args.gone in
    let both = rw (c.net.ensures.value, c.header.ensures.value, c.me.ensures, c.part-known.ensures.value) at c.has_edge.ensures in
    let near = both.0 c.if-not-has_edge.false in
    let p = c.index_mut.result.now in
    let has = near_at s.net me to c.requires.to near c.args.puts.now.items c.args.index.now c.requires.so_far.here (HasPutUntil edges s c.args.gone to me) c.requires.so_far.passes p c.index_mut.ensures.value in
    let who = c.me-2.ensures ∙ ap (λ k. k.me) c.part-known.ensures.value in
    let same = is_that (λ e. e.now) c.edge.result (edge_at edges c.me-2.result to) c.unwrap-edge.result has.on.edge c.edge.ensures (ap (λ m. edge_at edges m to) who ∙ has.on.there) c.unwrap-edge.ensures in
    subst (λ (e : Edge). IsPutPassOf e p) (sym same) has.on.of_edge

pub put_frame-requires-clause-next : goal.put_frame-requires-clause-next
put_frame-requires-clause-next g c =
    let edges = c.args.edges.now in let s = c.args.part.now.scenario in let me = c.args.part.now.me in let to = c.args.to in let gone = c.args.gone in
    let both = rw (c.net.ensures.value, c.header.ensures.value, c.me.ensures, c.part-known.ensures.value) at c.has_edge.ensures in
    let near = both.0 c.if-not-has_edge.false in
    let frame = ap (λ (parcels : Parcels). round (gone + 1) parcels)
    (putting_frame edges s gone me to c.args.index.now c.args.recorder.now c.args.puts.now.items c.in_ok-parcels.parcels.items c.requires.so_far c.in_ok-parcels.ensures.frame) in
    let p = c.index_mut.result.now in
    let has = near_at s.net me to c.requires.to near c.args.puts.now.items c.args.index.now c.requires.so_far.here (HasPutUntil edges s c.args.gone to me) c.requires.so_far.passes p c.index_mut.ensures.value in
    puts_next edges s c.args.gone me to c.requires.gone _ frame p has

pub returns-in_err-parcels-clause-passes : goal.returns-in_err-parcels-clause-passes
returns-in_err-parcels-clause-passes g c =
    puts_on c.args.edges.now c.args.part.now.scenario c.args.gone c.args.part.now.me c.args.to c.args.puts.now.items c.requires.so_far.passes

pub overflow_add-index : goal.overflow_add-index
overflow_add-index g c =
    let s = c.args.part.now.scenario in let me = c.args.part.now.me in
    let both = rw (c.net.ensures.value, c.header.ensures.value, c.me.ensures, c.part-known.ensures.value) at c.has_edge.ensures in
    let r = near_inside s.net me c.args.to c.requires.to (both.0 c.if-not-has_edge.false) c.args.puts.now.items c.args.index.now c.requires.so_far.here (HasPutUntil c.args.edges.now s c.args.gone c.args.to me) c.requires.so_far.passes in
    omega (arith, r, c.args.puts.now.ok.0, c.args.puts.now.ok.1)

pub returns-clause-ok : goal.returns-clause-ok
returns-clause-ok g c =
    let edges = c.args.edges.now in let s = c.args.part.now.scenario in let me = c.args.part.now.me in let to = c.args.to in let gone = c.args.gone in
    let both = rw (c.net.ensures.value, c.header.ensures.value, c.me.ensures, c.part-known.ensures.value) at c.has_edge.ensures in
    let near = both.0 c.if-not-has_edge.false in
    let frame = ap (λ (parcels : Parcels). round (gone + 1) parcels) (putting_frame edges s gone me to c.args.index.now c.args.recorder.now c.args.puts.now.items c.in_ok-parcels.parcels.items c.requires.so_far c.in_ok-parcels.ensures.frame) in
    let p = c.index_mut.result.now in let q = c.put_frame.new.pass in
    let has = near_at s.net me to c.requires.to near c.args.puts.now.items c.args.index.now c.requires.so_far.here (HasPutUntil edges s gone to me) c.requires.so_far.passes p c.index_mut.ensures.value in
    let who = c.me-2.ensures ∙ ap (λ k. k.me) c.part-known.ensures.value in
    let same = is_that (λ e. e.now) c.edge.result (edge_at edges c.me-2.result to) c.unwrap-edge.result has.on.edge c.edge.ensures (ap (λ m. edge_at edges m to) who ∙ has.on.there) c.unwrap-edge.ensures in
    let on : IsPutOn edges me to q = record { edge = has.on.edge; there = has.on.there; of_edge = subst (λ (e : Edge). IsPutPassOf e q) same c.put_frame.ensures.pass } in
    let done =
    near_set s.net me to c.requires.to near c.args.puts.now.items c.args.index.now c.requires.so_far.here (HasPutUntil edges s gone to me) (HasPutUntil edges s gone (to + 1) me)
    (λ a b o h. put_others edges s gone me to a b o h) q (has_put_more edges s gone me to c.requires.gone _ frame p q has on c.put_frame.ensures.put) c.requires.so_far.passes in
    putting_near edges s gone me to c.args.index.now c.args.recorder.now c.send.new.self c.args.puts.now.items (slice_set c.args.puts.now.items c.args.index.now q) (near_known s.net c.has_edge.result me to both ∙ c.if-not-has_edge.false) c.requires.so_far c.in_ok-parcels.ensures.ok done

pub returns-clause-passes : goal.returns-clause-passes
returns-clause-passes g c =
    let edges = c.args.edges.now in let s = c.args.part.now.scenario in let me = c.args.part.now.me in let to = c.args.to in let gone = c.args.gone in
    let both = rw (c.net.ensures.value, c.header.ensures.value, c.me.ensures, c.part-known.ensures.value) at c.has_edge.ensures in
    let near = both.0 c.if-not-has_edge.false in
    let frame = ap (λ (parcels : Parcels). round (gone + 1) parcels) (putting_frame edges s gone me to c.args.index.now c.args.recorder.now c.args.puts.now.items c.in_ok-parcels.parcels.items c.requires.so_far c.in_ok-parcels.ensures.frame) in
    let p = c.index_mut.result.now in let q = c.put_frame.new.pass in
    let has = near_at s.net me to c.requires.to near c.args.puts.now.items c.args.index.now c.requires.so_far.here (HasPutUntil edges s gone to me) c.requires.so_far.passes p c.index_mut.ensures.value in
    let who = c.me-2.ensures ∙ ap (λ k. k.me) c.part-known.ensures.value in
    let same = is_that (λ e. e.now) c.edge.result (edge_at edges c.me-2.result to) c.unwrap-edge.result has.on.edge c.edge.ensures (ap (λ m. edge_at edges m to) who ∙ has.on.there) c.unwrap-edge.ensures in
    let on : IsPutOn edges me to q = record { edge = has.on.edge; there = has.on.there; of_edge = subst (λ (e : Edge). IsPutPassOf e q) same c.put_frame.ensures.pass } in
    let done =
    near_set s.net me to c.requires.to near c.args.puts.now.items c.args.index.now c.requires.so_far.here (HasPutUntil edges s gone to me) (HasPutUntil edges s gone (to + 1) me)
    (λ a b o h. put_others edges s gone me to a b o h) q (has_put_more edges s gone me to c.requires.gone _ frame p q has on c.put_frame.ensures.put) c.requires.so_far.passes in
    puts_on edges s gone me (to + 1) (slice_set c.args.puts.now.items c.args.index.now q) done

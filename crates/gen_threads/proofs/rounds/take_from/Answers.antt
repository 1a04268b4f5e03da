use Rattle.std.proofs.Common.{◌≡◌, ◌∙◌, ap, true, false, arith, ◌+◌, sym, subst, rules, slice_set}
use Rattle.std.specs.List.{list_any}
use Rattle.gen_edge.specs.Frames.{carried, gone as last_word}
use Rattle.gen_net.specs.Edges.{joins}
use Rattle.gen_general.proofs.Worlds.{near_known}
use Rattle.gen_threads.specs.Turns.{HasTakenUntil}
use Rattle.gen_threads.proofs.Passing.{near_inside, is_there, is_that, near_some, near_at, near_set}
use Rattle.gen_threads.proofs.Turning.{takes_on, taking_far, taking_near, taking_next}
use Rattle.gen_edge.specs.declared.passes.Edge.{Edge}
use Rattle.gen_edge.specs.Ends.{IsTakePassOf, take_view}
use Rattle.gen_threads.specs.Edges.{IsTakeBy, edge_at}
use Rattle.gen_threads.proofs.Carrying.{frame_came, has_taken_more, taken_others}
use Rattle.gen_threads.specs.Faults.{HasLastWord}
use Rattle.gen_threads.proofs.LastWords.{any_here, last_taken}
use Rattle.gen_threads.proofs.rounds.take_from.Goals as goal

pub returns-then-not-has_edge-clause-ok : goal.returns-then-not-has_edge-clause-ok
returns-then-not-has_edge-clause-ok g c =
    let s = c.args.part.now.scenario in let me = c.args.part.now.me in
    let both = rw (c.net.ensures.value, c.header.ensures.value, c.me.ensures, c.part-known.ensures.value) at c.has_edge.ensures in
    let far : list_any (joins me c.args.from) s.net.edges ≡ false = near_known s.net c.has_edge.result me c.args.from both ∙ c.if-not-has_edge.true in
    taking_far c.args.edges.now s c.args.gone me c.args.from c.args.index.now c.args.recorder.now c.args.takes.now.items far c.requires.so_far

pub returns-then-not-has_edge-clause-passes : goal.returns-then-not-has_edge-clause-passes
returns-then-not-has_edge-clause-passes g c =
    takes_on c.args.edges.now c.args.part.now.scenario c.args.gone c.args.part.now.me c.args.from c.args.takes.now.items c.requires.so_far.passes

pub overflow_add-index : goal.overflow_add-index
overflow_add-index g c =
    let s = c.args.part.now.scenario in let me = c.args.part.now.me in
    let both = rw (c.net.ensures.value, c.header.ensures.value, c.me.ensures, c.part-known.ensures.value) at c.has_edge.ensures in
    let r = near_inside s.net me c.args.from c.requires.from (both.0 c.if-not-has_edge.false) c.args.takes.now.items c.args.index.now c.requires.so_far.here (HasTakenUntil c.args.edges.now s c.args.gone c.args.from me) c.requires.so_far.passes in
    omega (arith, r, c.args.takes.now.ok.0, c.args.takes.now.ok.1)

pub hear-requires-clause-next : goal.hear-requires-clause-next
hear-requires-clause-next g c =
    let s = c.args.part.now.scenario in let me = c.args.part.now.me in
    let lawful = c.part-known.ensures.lawful in
    let here = rw c.part-known.ensures.value at lawful.general in
    taking_next c.args.edges.now s c.args.gone me c.args.from c.args.index.now c.args.recorder.now c.args.takes.now.items lawful.lawful here c.requires.so_far

pub unwrap-edge-requires : goal.unwrap-edge-requires
unwrap-edge-requires g c =
    let edges = c.args.edges.now in let s = c.args.part.now.scenario in let me = c.args.part.now.me in let from = c.args.from in let gone = c.args.gone in
    let both = rw (c.net.ensures.value, c.header.ensures.value, c.me.ensures, c.part-known.ensures.value) at c.has_edge.ensures in
    let near = both.0 c.if-not-has_edge.false in
    let has = (near_some s.net me from c.requires.from near c.args.takes.now.items c.args.index.now c.requires.so_far.here (HasTakenUntil edges s gone from me) c.requires.so_far.passes).1 in
    let who = c.me-2.ensures ∙ ap (λ k. k.me) c.part-known.ensures.value in
    is_there (λ e. e.now) c.edge.result (edge_at edges from c.me-2.result) has.on.edge c.edge.ensures (ap (λ m. edge_at edges from m) who ∙ has.on.there)

pub index_mut-requires : goal.index_mut-requires
index_mut-requires g c =
    let edges = c.args.edges.now in let s = c.args.part.now.scenario in let me = c.args.part.now.me in let from = c.args.from in let gone = c.args.gone in
    let both = rw (c.net.ensures.value, c.header.ensures.value, c.me.ensures, c.part-known.ensures.value) at c.has_edge.ensures in
    let near = both.0 c.if-not-has_edge.false in
    let r = near_inside s.net me from c.requires.from near c.args.takes.now.items c.args.index.now c.requires.so_far.here (HasTakenUntil edges s gone from me) c.requires.so_far.passes in
    omega (arith, r, c.args.takes.now.ok.0, c.args.takes.now.ok.1)

pub take_frame-frame-requires : goal.take_frame-frame-requires
take_frame-frame-requires g c =
    let edges = c.args.edges.now in let s = c.args.part.now.scenario in let me = c.args.part.now.me in let from = c.args.from in let gone = c.args.gone in
    let both = rw (c.net.ensures.value, c.header.ensures.value, c.me.ensures, c.part-known.ensures.value) at c.has_edge.ensures in
    let near = both.0 c.if-not-has_edge.false in
    let p = c.index_mut.result.now in
    let has = near_at s.net me from c.requires.from near c.args.takes.now.items c.args.index.now c.requires.so_far.here (HasTakenUntil edges s gone from me) c.requires.so_far.passes p c.index_mut.ensures.value in
    let who = c.me-2.ensures ∙ ap (λ k. k.me) c.part-known.ensures.value in
    let same = is_that (λ e. e.now) c.edge.result (edge_at edges from c.me-2.result) c.unwrap-edge.result has.on.edge c.edge.ensures (ap (λ m. edge_at edges from m) who ∙ has.on.there) c.unwrap-edge.ensures in
    subst (λ (e : Edge). IsTakePassOf e p) (sym same) has.on.of_edge

pub returns-in_default-clause-passes : goal.returns-in_default-clause-passes
returns-in_default-clause-passes g c =
    let edges = c.args.edges.now in let s = c.args.part.now.scenario in let me = c.args.part.now.me in let from = c.args.from in let gone = c.args.gone in
    let both = rw (c.net.ensures.value, c.header.ensures.value, c.me.ensures, c.part-known.ensures.value) at c.has_edge.ensures in
    let near = both.0 c.if-not-has_edge.false in
    let p = c.index_mut.result.now in let q = c.take_frame-frame.new.pass in let x = c.take_frame-frame.result in
    let has = near_at s.net me from c.requires.from near c.args.takes.now.items c.args.index.now c.requires.so_far.here (HasTakenUntil edges s gone from me) c.requires.so_far.passes p c.index_mut.ensures.value in
    let who = c.me-2.ensures ∙ ap (λ k. k.me) c.part-known.ensures.value in
    let same = is_that (λ e. e.now) c.edge.result (edge_at edges from c.me-2.result) c.unwrap-edge.result has.on.edge c.edge.ensures (ap (λ m. edge_at edges from m) who ∙ has.on.there) c.unwrap-edge.ensures in
    let on : IsTakeBy edges me from q = record { edge = has.on.edge; there = has.on.there; of_edge = subst (λ (e : Edge). IsTakePassOf e q) same c.take_frame-frame.ensures.pass } in
    near_set s.net me from c.requires.from near c.args.takes.now.items c.args.index.now c.requires.so_far.here (HasTakenUntil edges s gone from me) (IsTakeBy edges me) (λ a b o h. h.on) q on c.requires.so_far.passes

pub returns-in_default-clause-fault : goal.returns-in_default-clause-fault
returns-in_default-clause-fault g c =
    let edges = c.args.edges.now in let s = c.args.part.now.scenario in let me = c.args.part.now.me in let from = c.args.from in let gone = c.args.gone in
    let both = rw (c.net.ensures.value, c.header.ensures.value, c.me.ensures, c.part-known.ensures.value) at c.has_edge.ensures in
    let near = both.0 c.if-not-has_edge.false in
    let r = near_inside s.net me from c.requires.from near c.args.takes.now.items c.args.index.now c.requires.so_far.here (HasTakenUntil edges s gone from me) c.requires.so_far.passes in
    let is : carried c.take_frame-frame.result ≡ last_word = search rules in
    any_here HasLastWord c.args.takes.now.items c.args.index.now r c.take_frame-frame.new.pass (last_taken c.take_frame-frame.result c.index_mut.result.now c.take_frame-frame.new.pass is c.take_frame-frame.ensures.taken)

pub returns-in_err-hear-clause-passes : goal.returns-in_err-hear-clause-passes
returns-in_err-hear-clause-passes g c =
    let edges = c.args.edges.now in let s = c.args.part.now.scenario in let me = c.args.part.now.me in let from = c.args.from in let gone = c.args.gone in
    let both = rw (c.net.ensures.value, c.header.ensures.value, c.me.ensures, c.part-known.ensures.value) at c.has_edge.ensures in
    let near = both.0 c.if-not-has_edge.false in
    let p = c.index_mut.result.now in let q = c.take_frame-frame.new.pass in let x = c.take_frame-frame.result in
    let has = near_at s.net me from c.requires.from near c.args.takes.now.items c.args.index.now c.requires.so_far.here (HasTakenUntil edges s gone from me) c.requires.so_far.passes p c.index_mut.ensures.value in
    let who = c.me-2.ensures ∙ ap (λ k. k.me) c.part-known.ensures.value in
    let same = is_that (λ e. e.now) c.edge.result (edge_at edges from c.me-2.result) c.unwrap-edge.result has.on.edge c.edge.ensures (ap (λ m. edge_at edges from m) who ∙ has.on.there) c.unwrap-edge.ensures in
    let on : IsTakeBy edges me from q = record { edge = has.on.edge; there = has.on.there; of_edge = subst (λ (e : Edge). IsTakePassOf e q) same c.take_frame-frame.ensures.pass } in
    near_set s.net me from c.requires.from near c.args.takes.now.items c.args.index.now c.requires.so_far.here (HasTakenUntil edges s gone from me) (IsTakeBy edges me) (λ a b o h. h.on) q on c.requires.so_far.passes

pub returns-clause-passes : goal.returns-clause-passes
returns-clause-passes g c =
    let edges = c.args.edges.now in let s = c.args.part.now.scenario in let me = c.args.part.now.me in let from = c.args.from in let gone = c.args.gone in
    let both = rw (c.net.ensures.value, c.header.ensures.value, c.me.ensures, c.part-known.ensures.value) at c.has_edge.ensures in
    let near = both.0 c.if-not-has_edge.false in
    let p = c.index_mut.result.now in let q = c.take_frame-frame.new.pass in let x = c.take_frame-frame.result in
    let has = near_at s.net me from c.requires.from near c.args.takes.now.items c.args.index.now c.requires.so_far.here (HasTakenUntil edges s gone from me) c.requires.so_far.passes p c.index_mut.ensures.value in
    let who = c.me-2.ensures ∙ ap (λ k. k.me) c.part-known.ensures.value in
    let same = is_that (λ e. e.now) c.edge.result (edge_at edges from c.me-2.result) c.unwrap-edge.result has.on.edge c.edge.ensures (ap (λ m. edge_at edges from m) who ∙ has.on.there) c.unwrap-edge.ensures in
    let on : IsTakeBy edges me from q = record { edge = has.on.edge; there = has.on.there; of_edge = subst (λ (e : Edge). IsTakePassOf e q) same c.take_frame-frame.ensures.pass } in
    near_set s.net me from c.requires.from near c.args.takes.now.items c.args.index.now c.requires.so_far.here (HasTakenUntil edges s gone from me) (IsTakeBy edges me) (λ a b o h. h.on) q on c.requires.so_far.passes

pub returns-clause-ok : goal.returns-clause-ok
returns-clause-ok g c =
    let edges = c.args.edges.now in let s = c.args.part.now.scenario in let me = c.args.part.now.me in let from = c.args.from in let gone = c.args.gone in
    let both = rw (c.net.ensures.value, c.header.ensures.value, c.me.ensures, c.part-known.ensures.value) at c.has_edge.ensures in
    let near = both.0 c.if-not-has_edge.false in
    let p = c.index_mut.result.now in let q = c.take_frame-frame.new.pass in let x = c.take_frame-frame.result in
    let has = near_at s.net me from c.requires.from near c.args.takes.now.items c.args.index.now c.requires.so_far.here (HasTakenUntil edges s gone from me) c.requires.so_far.passes p c.index_mut.ensures.value in
    let who = c.me-2.ensures ∙ ap (λ k. k.me) c.part-known.ensures.value in
    let same = is_that (λ e. e.now) c.edge.result (edge_at edges from c.me-2.result) c.unwrap-edge.result has.on.edge c.edge.ensures (ap (λ m. edge_at edges from m) who ∙ has.on.there) c.unwrap-edge.ensures in
    let on : IsTakeBy edges me from q = record { edge = has.on.edge; there = has.on.there; of_edge = subst (λ (e : Edge). IsTakePassOf e q) same c.take_frame-frame.ensures.pass } in
    let number = c.in-Round.number in let parcels = c.in-Round.parcels.items in let is = ap carried c.in-Round.is in
    let came = frame_came edges s gone me from c.requires.gone x number parcels is p (take_view q) has c.take_frame-frame.ensures.taken in
    let taken = near_set s.net me from c.requires.from near c.args.takes.now.items c.args.index.now c.requires.so_far.here (HasTakenUntil edges s gone from me) (HasTakenUntil edges s gone (from + 1) me)
    (λ a b o h. taken_others edges s gone me from a b o h) q (has_taken_more edges s gone me from c.requires.gone x number parcels is p q has on c.take_frame-frame.ensures.taken) c.requires.so_far.passes in
    taking_near edges s gone me from c.args.index.now c.args.recorder.now c.hear.new.self c.args.takes.now.items (slice_set c.args.takes.now.items c.args.index.now q) c.as_slice.result.now
    (near_known s.net c.has_edge.result me from both ∙ c.if-not-has_edge.false) c.requires.so_far (c.as_slice.ensures.value ∙ came) c.in_ok-hear.ensures.ok taken

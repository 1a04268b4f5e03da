use Rattle.std.proofs.Common.{◌≡◌, ◌∙◌, ◌+◌, ap, true, false, arith, sym, subst}
use Rattle.std.specs.List.{list_any}
use Rattle.gen_net.specs.Edges.{joins}
use Rattle.gen_general.proofs.Worlds.{near_known, set_done}
use Rattle.gen_threads.specs.Edges.{IsPutOn, edge_at, IsTakeBy}
use Rattle.gen_threads.proofs.Nears.{index_behind, index_kept}
use Rattle.gen_threads.proofs.Passing.{near_inside, is_there, is_that, near_some, near_at, near_set}
use Rattle.gen_edge.specs.declared.passes.Edge.{Edge}
use Rattle.gen_edge.specs.Ends.{IsPutPassOf, IsTakePassOf}
use Rattle.gen_net.specs.Network.{rounds}
use Rattle.gen_threads.specs.Turns.{IsPutOver, IsTakeOver}
use Rattle.gen_threads.specs.Faults.{HasLastWord}
use Rattle.gen_threads.proofs.LastWords.{any_kept}
use Rattle.gen_chain.proofs.TestedChains.{both as both_true}
use Rattle.gen_threads.proofs.stopping.end_both.Goals as goal

pub returns-then-not-has_edge-clause-index : goal.returns-then-not-has_edge-clause-index
returns-then-not-has_edge-clause-index g c =
    let net = c.args.net.now in
    let far : list_any (joins c.args.me c.args.other) net.edges ≡ false = near_known net c.has_edge.result c.args.me c.args.other c.has_edge.ensures ∙ c.if-not-has_edge.true in
    c.requires.index ∙ index_kept net c.args.me c.args.other far

pub overflow_add-index : goal.overflow_add-index
overflow_add-index g c =
    let r = near_inside c.args.net.now c.args.me c.args.other c.requires.other (c.has_edge.ensures.0 c.if-not-has_edge.false) c.args.puts.now.items c.args.index.now c.requires.index (IsPutOn c.args.edges.now c.args.me) c.requires.passes.putting in
    omega (arith, r, c.args.puts.now.ok.0, c.args.puts.now.ok.1)

pub returns-clause-index : goal.returns-clause-index
returns-clause-index g c =
    let net = c.args.net.now in
    let near : list_any (joins c.args.me c.args.other) net.edges ≡ true = near_known net c.has_edge.result c.args.me c.args.other c.has_edge.ensures ∙ c.if-not-has_edge.false in
    ap (λ n. n + 1) c.requires.index ∙ index_behind net c.args.me c.args.other near

pub unwrap-outward-requires : goal.unwrap-outward-requires
unwrap-outward-requires g c =
    let edges = c.args.edges.now in let me = c.args.me in let other = c.args.other in let net = c.args.net.now in
    let near = c.has_edge.ensures.0 c.if-not-has_edge.false in
    let on = (near_some net me other c.requires.other near c.args.puts.now.items c.args.index.now c.requires.index (IsPutOn edges me) c.requires.passes.putting).1 in
    is_there (λ e. e.now) c.edge.result (edge_at edges me other) on.edge c.edge.ensures on.there

pub index_mut-requires : goal.index_mut-requires
index_mut-requires g c =
    let edges = c.args.edges.now in let me = c.args.me in let other = c.args.other in let net = c.args.net.now in
    let near = c.has_edge.ensures.0 c.if-not-has_edge.false in
    let r = near_inside net me other c.requires.other near c.args.puts.now.items c.args.index.now c.requires.index (IsPutOn edges me) c.requires.passes.putting in
    omega (arith, r, c.args.puts.now.ok.0, c.args.puts.now.ok.1)

pub end_put-put-requires : goal.end_put-put-requires
end_put-put-requires g c =
    let edges = c.args.edges.now in let me = c.args.me in let other = c.args.other in let net = c.args.net.now in
    let near = c.has_edge.ensures.0 c.if-not-has_edge.false in
    let on = near_at net me other c.requires.other near c.args.puts.now.items c.args.index.now c.requires.index (IsPutOn edges me) c.requires.passes.putting c.index_mut.result.now c.index_mut.ensures.value in
    let same = is_that (λ e. e.now) c.edge.result (edge_at edges me other) c.unwrap-outward.result on.edge c.edge.ensures on.there c.unwrap-outward.ensures in
    subst (λ (e : Edge). IsPutPassOf e c.index_mut.result.now) (sym same) on.of_edge

pub unwrap-inward-requires : goal.unwrap-inward-requires
unwrap-inward-requires g c =
    let edges = c.args.edges.now in let me = c.args.me in let other = c.args.other in let net = c.args.net.now in
    let near = c.has_edge.ensures.0 c.if-not-has_edge.false in
    let on = (near_some net me other c.requires.other near c.args.takes.now.items c.args.index.now c.requires.index (IsTakeBy edges me) c.requires.passes.taking).1 in
    is_there (λ e. e.now) c.edge-2.result (edge_at edges other me) on.edge c.edge-2.ensures on.there

pub index_mut-requires-2 : goal.index_mut-requires-2
index_mut-requires-2 g c =
    let edges = c.args.edges.now in let me = c.args.me in let other = c.args.other in let net = c.args.net.now in
    let near = c.has_edge.ensures.0 c.if-not-has_edge.false in
    let r = near_inside net me other c.requires.other near c.args.takes.now.items c.args.index.now c.requires.index (IsTakeBy edges me) c.requires.passes.taking in
    omega (arith, r, c.args.takes.now.ok.0, c.args.takes.now.ok.1)

pub end_take-taken-requires : goal.end_take-taken-requires
end_take-taken-requires g c =
    let edges = c.args.edges.now in let me = c.args.me in let other = c.args.other in let net = c.args.net.now in
    let near = c.has_edge.ensures.0 c.if-not-has_edge.false in
    let on = near_at net me other c.requires.other near c.args.takes.now.items c.args.index.now c.requires.index (IsTakeBy edges me) c.requires.passes.taking c.index_mut-2.result.now c.index_mut-2.ensures.value in
    let same = is_that (λ e. e.now) c.edge-2.result (edge_at edges other me) c.unwrap-inward.result on.edge c.edge-2.ensures on.there c.unwrap-inward.ensures in
    subst (λ (e : Edge). IsTakePassOf e c.index_mut-2.result.now) (sym same) on.of_edge

pub returns-clause-passes : goal.returns-clause-passes
returns-clause-passes g c =
    let edges = c.args.edges.now in let me = c.args.me in let other = c.args.other in let net = c.args.net.now in
    let near = c.has_edge.ensures.0 c.if-not-has_edge.false in
    let on_put = near_at net me other c.requires.other near c.args.puts.now.items c.args.index.now c.requires.index (IsPutOn edges me) c.requires.passes.putting c.index_mut.result.now c.index_mut.ensures.value in
    let same_put = is_that (λ e. e.now) c.edge.result (edge_at edges me other) c.unwrap-outward.result on_put.edge c.edge.ensures on_put.there c.unwrap-outward.ensures in
    let now_put : IsPutOn edges me other c.end_put-put.new.pass = record { edge = on_put.edge; there = on_put.there; of_edge = subst (λ (e : Edge). IsPutPassOf e c.end_put-put.new.pass) same_put c.end_put-put.ensures.pass } in
    let on_taken = near_at net me other c.requires.other near c.args.takes.now.items c.args.index.now c.requires.index (IsTakeBy edges me) c.requires.passes.taking c.index_mut-2.result.now c.index_mut-2.ensures.value in
    let same_taken = is_that (λ e. e.now) c.edge-2.result (edge_at edges other me) c.unwrap-inward.result on_taken.edge c.edge-2.ensures on_taken.there c.unwrap-inward.ensures in
    let now_taken : IsTakeBy edges me other c.end_take-taken.new.pass = record { edge = on_taken.edge; there = on_taken.there; of_edge = subst (λ (e : Edge). IsTakePassOf e c.end_take-taken.new.pass) same_taken c.end_take-taken.ensures.pass } in
    record {
      putting = near_set net me other c.requires.other near c.args.puts.now.items c.args.index.now c.requires.index (IsPutOn edges me) (IsPutOn edges me) (λ a b o h. h) c.end_put-put.new.pass now_put c.requires.passes.putting;
      taking = near_set net me other c.requires.other near c.args.takes.now.items c.args.index.now c.requires.index (IsTakeBy edges me) (IsTakeBy edges me) (λ a b o h. h) c.end_take-taken.new.pass now_taken c.requires.passes.taking;
    }

pub returns-clause-kept : goal.returns-clause-kept
returns-clause-kept g c =
    let edges = c.args.edges.now in let me = c.args.me in let other = c.args.other in let net = c.args.net.now in
    let near = c.has_edge.ensures.0 c.if-not-has_edge.false in
    let r = near_inside net me other c.requires.other near c.args.takes.now.items c.args.index.now c.requires.index (IsTakeBy edges me) c.requires.passes.taking in
    any_kept HasLastWord c.args.takes.now.items c.args.index.now r c.index_mut-2.result.now c.end_take-taken.new.pass c.index_mut-2.ensures.value c.end_take-taken.ensures.kept

pub returns-clause-over : goal.returns-clause-over
returns-clause-over g c ended before =
    let edges = c.args.edges.now in let me = c.args.me in let other = c.args.other in let net = c.args.net.now in
    let near = c.has_edge.ensures.0 c.if-not-has_edge.false in
    let r_put = near_inside net me other c.requires.other near c.args.puts.now.items c.args.index.now c.requires.index (IsPutOn edges me) c.requires.passes.putting in
    let r_taken = near_inside net me other c.requires.other near c.args.takes.now.items c.args.index.now c.requires.index (IsTakeBy edges me) c.requires.passes.taking in
    let both = both_true c.end_put-put.result c.end_take-taken.result ended in
    record {
      putting = set_done (λ k p. IsPutOver (rounds net) p) c.args.puts.now.items c.args.index.now c.end_put-put.new.pass r_put before.putting (subst (λ n. IsPutOver n c.end_put-put.new.pass) c.rounds.ensures.value (c.end_put-put.ensures.over both.0));
      taking = set_done (λ k p. IsTakeOver (rounds net) p) c.args.takes.now.items c.args.index.now c.end_take-taken.new.pass r_taken before.taking (subst (λ n. IsTakeOver n c.end_take-taken.new.pass) c.rounds-2.ensures.value (c.end_take-taken.ensures.over both.1));
    }

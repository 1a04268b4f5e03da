use Rattle.std.proofs.Common.{arith, ◌≡◌, ◌<◌, ◌≤◌, ◌++◌, [], ◌∷◌, inl, inr, sym, ap, ◌∙◌, refl, subst}
use Rattle.gen_walks.specs.Walks.{AreJoined}
use Rattle.gen_walks.specs.Levels.{level}
use Rattle.gen_walks.specs.BestWalks.{IsBestWalk}
use Rattle.gen_walks.proofs.Distances.{ends_in, reaches_back}
use Rattle.gen_walks.proofs.Greedy.{Greedy, one_more, best, turned}
use Rattle.gen_walks.proofs.search.best_walk.Goals as goal

pub loop-left-init : goal.loop-left-init
loop-left-init c =
    let few : c.args.net.now.generals ≤ 16 = c.requires.network.ranges.few_generals in
    let reached : level c.args.row.now c.args.a < 255 = reaches_back c.args.net.now c.args.rest.now c.args.a c.args.b c.args.row.now c.requires.joined.0 c.requires.network c.requires.levels c.requires.joined.1 in
    record {
      height = sym c.level-left.ensures;
      low = omega (arith, reached, c.level-left.ensures);
      inside = omega (arith, c.requires.start.0);
      walk = ([], c.in_ok-push.ensures.items ∙ ap (λ x. x ++ c.args.a ∷ []) c.new-generals.ensures.items, refl);
    }

pub nearest-at-requires : goal.nearest-at-requires
nearest-at-requires c =
    elim (c.requires.levels.comes c.loop-left.at c.loop-left.invariant.inside (omega (arith, c.loop-left.invariant.height, c.loop-left.invariant.low))) [
      | inl e ↦ absurd (omega (arith, ap (level c.args.row.now) e, c.requires.levels.lowest, c.loop-left.invariant.height))
      | inr (u, n, e) ↦ (u, turned c.args.net.now c.args.rest.now u c.loop-left.at n, e)
    ]

pub loop-left-preserved : goal.loop-left-preserved
loop-left-preserved c =
    let w = c.loop-left.invariant.walk in
    let next = c.nearest-at.result in
    let at = c.loop-left.at in
    record {
      height = omega (arith, c.nearest-at.ensures.nearer, c.loop-left.invariant.height);
      low = omega (arith, c.loop-left.invariant.low);
      inside = (ends_in c.args.net.now c.args.rest.now c.requires.network at next c.nearest-at.ensures.joins).1;
      walk = (
        w.0 ++ next ∷ [],
        c.in_ok-push-2.ensures.items ∙ ap (λ x. x ++ next ∷ []) w.1,
        one_more (AreJoined c.args.net.now c.args.rest.now) (level c.args.row.now) c.args.a w.0 at next w.2 c.nearest-at.ensures,
      );
    }

pub returns : goal.returns
returns c =
    let w = c.loop-left.invariant.walk in
    let near = AreJoined c.args.net.now c.args.rest.now in
    let lev = level c.args.row.now in
    let there : c.loop-left.at ≡ c.args.b = elim (c.requires.levels.comes c.loop-left.at c.loop-left.invariant.inside (omega (arith, c.loop-left.invariant.height, c.loop-left.invariant.low))) [
      | inl e ↦ e
      | inr (u, n, e) ↦ absurd (omega (arith, c.loop-left.invariant.height))
    ] in
    rw c.new.ensures (subst (λ x. IsBestWalk c.args.net.now c.args.rest.now c.args.a c.args.b x) (sym w.1) (best c.args.net.now c.args.rest.now lev c.args.a c.args.b w.0 c.requires.levels c.requires.start (subst (λ x. Greedy near lev c.args.a w.0 x) there w.2)))

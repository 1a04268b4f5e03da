use Rattle.std.proofs.Common.{arith, ◌≡◌, ◌+◌, length, ℕ, ap, sym, refl, ◌∙◌, subst, inl, inr}
use Rattle.std.proofs.Math.ListN.{length-set}
use Rattle.gen_walks.specs.Walks.{AreJoined}
use Rattle.gen_walks.specs.Levels.{level}
use Rattle.gen_walks.specs.Loops.Search.{IsNextLevel}
use Rattle.gen_walks.proofs.Round.{taken, passed}
use Rattle.gen_walks.proofs.search.spread.Goals as goal
use Rattle.gen_walks.proofs.search.spread.Goals.{then-level+then-is_near_level, else-level, else-level-via-then-level+else-is_near_level, else-level-via-else-level}

pub loop-number-preserved : goal.loop-number-preserved
loop-number-preserved c =
    let near = AreJoined c.args.net.now c.args.rest.now in
    let lev = level c.args.row.now in
    let v = c.at-v.result in
    let number = c.loop-number.number in
    elim c.if-level.branch [
      | then-level+then-is_near_level w ↦
          let none : lev v ≡ 255 = sym c.level.ensures ∙ w.if-level.true in
          let none_here : lev number ≡ 255 = ap lev (sym c.at-v.ensures) ∙ none in
          let at_v : IsNextLevel near lev c.args.k v (c.args.k + 1) = inr (inl (none, refl, w.if-is_near_level.ensures.yes)) in
          let is = subst (λ (v : ℕ). IsNextLevel near lev c.args.k v (c.args.k + 1)) c.at-v.ensures at_v in
          let long : length c.loop-number.next ≡ 16 = omega (arith, ap length w.next-is, length-set {A = ℕ}) in
          rw (w.next-is, w.changed-is) (taken near lev c.args.k number (c.args.k + 1) c.loop-number.next c.requires.k (omega arith) long is c.loop-number.changed c.loop-number.invariant (λ e. omega (arith, e, none_here, c.requires.k)))
      | else-level w ↦
          let at_v : IsNextLevel near lev c.args.k v (lev v) = elim w.else-level.branch [
            | else-level-via-then-level+else-is_near_level u ↦
                let none : lev v ≡ 255 = sym c.level.ensures ∙ u.if-level.true in
                inr (inr (none, none, u.if-is_near_level.ensures.no))
            | else-level-via-else-level u ↦ inl (λ e. u.if-level.false (c.level.ensures ∙ e), refl)
          ] in
          let is = subst (λ (v : ℕ). IsNextLevel near lev c.args.k v (lev v)) c.at-v.ensures at_v in
          let long : length c.loop-number.next ≡ 16 = ap length (sym w.next-is) ∙ c.if-level.array_long in
          rw (w.next-is, w.changed-is) (passed near lev c.args.k number (lev number) c.loop-number.next c.requires.k (omega arith) long is c.loop-number.changed c.loop-number.invariant refl)
    ]

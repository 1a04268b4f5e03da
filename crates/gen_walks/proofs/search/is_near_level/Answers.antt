use Rattle.std.proofs.Common.{◌≡◌, ℕ, ◌∙◌, subst}
use Rattle.gen_walks.specs.Walks.{AreJoined}
use Rattle.gen_walks.specs.Levels.{level}
use Rattle.gen_walks.proofs.Places.{held_up_to, told_otherwise}
use Rattle.gen_walks.proofs.search.is_near_level.Goals as goal
use Rattle.gen_walks.proofs.search.is_near_level.Goals.{else-level-k-via-then-level-k+else-are_joined, else-level-k-via-else-level-k}

pub loop-number-preserved : goal.loop-number-preserved
loop-number-preserved c =
    let P : ℕ → Type 0 = λ y. AreJoined c.args.net.now c.args.rest.now y c.args.v → level c.args.row.now y ≡ c.args.k → ⊥ in
    let here : P c.at-u.result = elim c.else-level-k.branch [
      | else-level-k-via-then-level-k+else-are_joined w ↦ λ n e. told_otherwise (w.if-are_joined.ensures.1 n)
      | else-level-k-via-else-level-k w ↦ λ n e. w.if-level-k.false (c.level.ensures ∙ e)
    ] in
    held_up_to P c.loop-number.number c.loop-number.invariant (subst P c.at-u.ensures here)

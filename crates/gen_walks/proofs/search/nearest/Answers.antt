use Rattle.std.proofs.Common.{◌≡◌, ◌+◌, ℕ, subst, arith}
use Rattle.gen_walks.specs.Walks.{AreJoined}
use Rattle.gen_walks.specs.Levels.{level}
use Rattle.gen_walks.proofs.Places.{held_up_to, told_otherwise}
use Rattle.gen_walks.proofs.search.nearest.Goals as goal
use Rattle.gen_walks.proofs.search.nearest.Goals.{else-from-via-then-from+else-are_joined, else-from-via-else-from}

pub loop-number-preserved : goal.loop-number-preserved
loop-number-preserved c =
    let P : ℕ → Type 0 = λ y. AreJoined c.args.net.now c.args.rest.now c.args.at y → level c.args.row.now c.args.at ≡ level c.args.row.now y + 1 → ⊥ in
    let here : P c.at-next.result = elim c.else-from.branch [
      | else-from-via-then-from+else-are_joined w ↦ λ n e. told_otherwise (w.if-are_joined.ensures.1 n)
      | else-from-via-else-from w ↦ λ n e. w.if-from.false (omega (arith, e, c.from.ensures, c.level.ensures, c.from-in-loop-number.ensures, c.level-in-loop-number.ensures))
    ] in
    held_up_to P c.loop-number.number c.loop-number.invariant (subst P c.at-next.ensures here)

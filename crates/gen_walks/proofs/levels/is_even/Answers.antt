use Rattle.std.proofs.Common.{ℕ, sym, subst, ◌∙◌, arith}
use Rattle.gen_walks.specs.Loops.Checking.{IsSteep, IsEvenFrom}
use Rattle.gen_walks.proofs.Places.{held_up_to, told_otherwise}
use Rattle.gen_walks.proofs.levels.is_even.Goals as goal
use Rattle.gen_walks.proofs.levels.is_even.Goals.{else-from-via-then-from+else-are_joined, else-from-via-else-from}

pub loop-other-preserved : goal.loop-other-preserved
loop-other-preserved c =
    let P : ℕ → Type 0 = λ y. IsSteep c.args.net.now c.args.rest.now c.args.row.now c.at-a.result y → ⊥ in
    let here : P c.at-b.result = elim c.else-from.branch [
      | else-from-via-then-from+else-are_joined w ↦ λ steep. told_otherwise (sym w.if-are_joined.false ∙ w.are_joined.ensures.1 steep.1)
      | else-from-via-else-from w ↦ λ steep. omega (arith, steep.0)
    ] in
    held_up_to P c.loop-other.other c.loop-other.invariant (subst P c.at-b.ensures here)

pub loop-number-preserved : goal.loop-number-preserved
loop-number-preserved c =
    let P : ℕ → Type 0 = λ x. IsEvenFrom c.args.net.now c.args.rest.now c.args.row.now x in
    let here : P c.at-a.result = λ y below. c.loop-other.invariant y (omega arith) in
    held_up_to P c.loop-number.number c.loop-number.invariant (subst P c.at-a.ensures here)

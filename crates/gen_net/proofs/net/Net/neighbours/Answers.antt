use Rattle.std.proofs.Common.{ℕ, ◌≡◌, refl, sym, subst, arith, true, false}
use Rattle.gen_net.specs.Network.{AreNeighbours}
use Rattle.gen_net.proofs.Neighbours.{one_more, passed, all_looked_at, joined_below}
use Rattle.gen_net.proofs.net.Net.neighbours.Goals as goal
use Rattle.gen_net.proofs.net.Net.neighbours.Goals.{then-has_edge, else-has_edge}

told_otherwise : false ≡ true → ⊥
told_otherwise e = cc

pub loop-number-preserved : goal.loop-number-preserved
loop-number-preserved c =
    let P : ℕ → Type 0 = λ h. AreNeighbours c.args.self.now c.args.general h in
    elim c.if-has_edge.branch [
      | then-has_edge w ↦ rw w.set-is (one_more P c.loop-number.set _ c.loop-number.number c.loop-number.invariant (subst P c.at-other.ensures (w.if-has_edge.ensures.0 refl)) (rw c.at-other.ensures at w.insert.ensures.members))
      | else-has_edge w ↦ rw w.set-is (passed P c.loop-number.set c.loop-number.number c.loop-number.invariant (λ p. told_otherwise (w.if-has_edge.ensures.1 (subst P (sym c.at-other.ensures) p))))
    ]

pub returns : goal.returns
returns c =
    let P : ℕ → Type 0 = λ h. AreNeighbours c.args.self.now c.args.general h in
    all_looked_at P c.loop-number.set c.loop-number.number c.loop-number.invariant (λ h p.
    let q = subst (λ net. AreNeighbours net c.args.general h) (sym c.self.view_is) p in
    omega (arith, joined_below _ c.self.invariant c.args.general h q))

use Rattle.std.proofs.Common.{ℕ, ◌≡◌, ◌<◌, Contains, sym, ◌∙◌, subst, rules, true, false}
use Rattle.gen_types.specs.Ascending.{IsListOf}
use Rattle.gen_net.proofs.Neighbours.{one_more, passed}
use Rattle.gen_net.proofs.net.Net.rest.Goals as goal
use Rattle.gen_net.proofs.net.Net.rest.Goals.{then-not-contains, else-not-contains}

told_otherwise : false ≡ true → ⊥
told_otherwise e = cc

pub loop-number-preserved : goal.loop-number-preserved
loop-number-preserved c =
    let P : ℕ → Type 0 = λ h. Contains c.args.faulty.now h → ⊥ in
    elim c.if-not-contains.branch [
      | then-not-contains w ↦ rw w.rest-is (one_more P c.loop-number.rest _ c.loop-number.number c.loop-number.invariant (λ h. told_otherwise (sym w.if-not-contains.true ∙ c.contains.ensures.1 (subst (Contains c.args.faulty.now) (sym c.at-general.ensures) h))) (rw c.at-general.ensures at w.insert.ensures.members))
      | else-not-contains w ↦ rw w.rest-is (passed P c.loop-number.rest c.loop-number.number c.loop-number.invariant (λ p. p (subst (Contains c.args.faulty.now) c.at-general.ensures (c.contains.ensures.0 w.if-not-contains.false))))
    ]

pub returns : goal.returns
returns c =
    let all : c.loop-number.number ≡ c.args.self.now.generals = search rules in
    subst (λ n. IsListOf c.loop-number.rest (λ v. (v < n) × (Contains c.args.faulty.now v → ⊥))) all c.loop-number.invariant

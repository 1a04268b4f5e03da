use Rattle.std.proofs.Common.{ℕ, ◌≡◌, ◌<◌, refl, sym, subst, arith, true, false}
use Rattle.gen_net.proofs.Neighbours.{one_more, passed}
use Rattle.gen_types.specs.Ascending.{IsListOf}
use Rattle.gen_match.specs.Messages.{Counts}
use Rattle.gen_match.specs.Reports.{told_logs}
use Rattle.gen_match.proofs.edges.counted.Goals as goal
use Rattle.gen_match.proofs.edges.counted.Goals.{then-counts, else-counts}

told_otherwise : false ≡ true → ⊥
told_otherwise e = cc

pub loop-number-preserved : goal.loop-number-preserved
loop-number-preserved c =
    let P : ℕ → Type 0 = Counts c.args.faulty.now (told_logs c.args.reports.now) in
    elim c.if-counts.branch [
      | then-counts w ↦ rw w.set-is (one_more P c.loop-number.set _ c.loop-number.number c.loop-number.invariant (subst P c.at-general.ensures (w.if-counts.ensures.0 refl)) (rw c.at-general.ensures at w.insert.ensures.members))
      | else-counts w ↦ rw w.set-is (passed P c.loop-number.set c.loop-number.number c.loop-number.invariant (λ p. told_otherwise (w.if-counts.ensures.1 (subst P (sym c.at-general.ensures) p))))
    ]

pub returns : goal.returns
returns c =
    let e : c.loop-number.number ≡ c.args.net.now.generals = omega (arith, c.loop-number-test.false, c.loop-number.auto.number-end, c.generals-number-end.ensures.value) in
    subst (λ n. IsListOf c.loop-number.set (λ g. (g < n) × Counts c.args.faulty.now (told_logs c.args.reports.now) g)) e c.loop-number.invariant

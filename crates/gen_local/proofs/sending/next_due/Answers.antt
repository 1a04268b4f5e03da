use Rattle.std.proofs.Common.{◌≤◌, ◌<◌, ◌≡◌, ℕ, ◌+◌, true, false, inl, inr, sym, subst, arith, ◌∙◌}
use Rattle.std.proofs.lemmas.Bool.{cases_eq}
use Rattle.gen_local.specs.Walking.State.{IsDueTo}
use Rattle.gen_local.proofs.sending.next_due.Goals as goal
use Rattle.gen_local.proofs.sending.next_due.Goals.{else-has_edge-via-then-has_edge+else-not-contains, else-has_edge-via-else-has_edge}

told_otherwise : false ≡ true → ⊥
told_otherwise e = cc

none_later : (P : ℕ → Type 0) (from number at : ℕ) → at ≡ number → (P at → ⊥) → ((to : ℕ) → from ≤ to → to < number → P to → ⊥) → (to : ℕ) → from ≤ to → to < number + 1 → P to → ⊥
none_later P from number at e off least to low less p = elim (cases_eq to number) [
  | inl q ↦ off (subst P (q ∙ sym e) p)
  | inr ne ↦ least to low (omega (arith, less, ne)) p
]

pub loop-number-preserved : goal.loop-number-preserved
loop-number-preserved c =
    let P : ℕ → Type 0 = IsDueTo c.args.net.now c.args.general c.args.path.now in
    let off : P c.at-to.result → ⊥ = elim c.else-has_edge.branch [
      | else-has_edge-via-then-has_edge+else-not-contains w ↦ λ p. p.1 (w.contains.ensures.0 w.if-not-contains.false)
      | else-has_edge-via-else-has_edge w ↦ λ p. told_otherwise (sym w.if-has_edge.false ∙ c.has_edge.ensures.1 p.0)
    ] in
    record {
      after = omega (arith, c.loop-number.invariant.after);
      few = omega (arith, c.loop-number-test.true);
      least = none_later P c.args.from c.loop-number.number c.at-to.result c.at-to.ensures off c.loop-number.invariant.least;
    }

pub returns : goal.returns
returns c = record {
  after = omega (arith, c.loop-number.invariant.after, c.loop-number-test.false, c.generals.ensures.value, c.loop-number.invariant.few);
  few = omega (arith, c.generals.ensures.value);
  due = λ h. absurd (omega (arith, h, c.generals.ensures.value));
  least = λ to low less. c.loop-number.invariant.least to low (omega (arith, less, c.loop-number-test.false, c.generals.ensures.value, c.loop-number.invariant.few, c.generals-number-end.ensures.value));
}

use Rattle.std.proofs.Common.{ℕ, ◌≡◌, ◌<◌, ◌∙◌, inl, inr, List, sym, ap, subst, arith, true, false}
use Rattle.std.specs.Prelude.{slice_index_or}
use Rattle.std.specs.Bool.{nat_eq}
use Rattle.std.specs.Cmp.Lexicographic.{pointwise, same_text, other_text}
use Rattle.std.proofs.lemmas.Bool.{eqb-true, eq-eqb}
use Rattle.std.proofs.lemmas.List.{get_or_default}
use Rattle.gen_types.specs.Ascending.{IsListOf}
use Rattle.gen_types.specs.ChoiceOf.{choice_of}
use Rattle.gen_types.proofs.Lists.{bool_cases}
use Rattle.gen_net.specs.Network.{choose}
use Rattle.gen_net.proofs.Neighbours.{one_more, passed}
use Rattle.gen_core.proofs.OrderedLists.{one_list}
use Rattle.gen_local.specs.declared.progress.Progress.{Progress}
use Rattle.gen_local.specs.declared.progress.Progress.TheVariants.{Unlearnt}
use Rattle.gen_local.specs.Walking.Judged.{IsKnown}
use Rattle.gen_local.proofs.deciding.can_decide.Goals as goal
use Rattle.gen_local.proofs.deciding.can_decide.Goals.{then-is_known, else-is_known}

told_otherwise : false ≡ true → ⊥
told_otherwise e = cc

pub loop-number-preserved : goal.loop-number-preserved
loop-number-preserved c =
    let P : ℕ → Type 0 = λ h. IsKnown (slice_index_or c.args.orders.now h Unlearnt) in
    let r = c.index-orders-from.result in
    let there : slice_index_or c.args.orders.now c.from.result r ≡ slice_index_or c.args.orders.now c.loop-number.number Unlearnt =
    ap (λ i. slice_index_or c.args.orders.now i r) c.from.ensures ∙ get_or_default c.args.orders.now c.loop-number.number r Unlearnt (omega (arith, c.loop-number-test.true, c.type_inv.orders)) in
    elim c.if-is_known.branch [
      | then-is_known w ↦ rw w.known-is (one_more P c.loop-number.known _ c.loop-number.number c.loop-number.invariant (subst IsKnown there (c.is_known.ensures.0 w.if-is_known.true)) (rw w.at.ensures at w.insert.ensures.members))
      | else-is_known w ↦ rw w.known-is (passed P c.loop-number.known c.loop-number.number c.loop-number.invariant (λ p. told_otherwise (sym w.if-is_known.false ∙ c.is_known.ensures.1 (subst IsKnown (sym there) p))))
    ]

-- the set after the last of the orders is that of those that were learnt
whole : (orders : List Progress) (set : List ℕ) (n : ℕ) → n ≡ 16 → IsListOf set (λ v. (v < n) × IsKnown (slice_index_or orders v Unlearnt)) → IsListOf set (λ v. (v < 16) × IsKnown (slice_index_or orders v Unlearnt))
whole orders set n all are = subst (λ m. IsListOf set (λ v. (v < m) × IsKnown (slice_index_or orders v Unlearnt))) all are

same_list : (xs ys : List ℕ) → xs ≡ ys → pointwise nat_eq xs ys ≡ true
same_list xs ys q = elim (bool_cases (pointwise nat_eq xs ys)) [
  | inl e ↦ e
  | inr e ↦ absurd (other_text xs ys (sym e) q)
]

pub returns-then-eq : goal.returns-then-eq
returns-then-eq c =
    let P : ℕ → Type 0 = λ v. (v < 16) × IsKnown (slice_index_or c.args.orders.now v Unlearnt) in
    let known = whole c.args.orders.now c.loop-number.known c.loop-number.number (omega (arith, c.loop-number-test.false, c.loop-number.auto.number-end)) c.loop-number.invariant in
    let same = same_text c.args.set.now c.loop-number.known (sym (sym c.eq.ensures ∙ c.if-eq.true)) in
    let set : IsListOf c.args.set.now P = subst (λ xs. IsListOf xs P) (sym same) known in
    let chosen : c.choose.result ≡ choose c.args.net.now c.args.set.now = c.choose.ensures ∙ ap (λ k. choice_of k c.args.set.now) c.choice.ensures in (
      (λ t. (set, eqb-true c.args.order c.choose.result (sym c.eq-then-eq.ensures ∙ t) ∙ chosen)),
      (λ h. c.eq-then-eq.ensures ∙ eq-eqb c.args.order c.choose.result (h.1 ∙ sym chosen)),
    )

pub returns-else-eq : goal.returns-else-eq
returns-else-eq c =
    let P : ℕ → Type 0 = λ v. (v < 16) × IsKnown (slice_index_or c.args.orders.now v Unlearnt) in
    let known = whole c.args.orders.now c.loop-number.known c.loop-number.number (omega (arith, c.loop-number-test.false, c.loop-number.auto.number-end)) c.loop-number.invariant in (
      (λ t. let q : true ≡ false = sym t ∙ c.if-eq.false in absurd (cc)),
      (λ h. c.eq.ensures ∙ same_list c.args.set.now c.loop-number.known (one_list P c.args.set.now c.loop-number.known h.0 known)),
    )

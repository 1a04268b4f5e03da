-- One chain after another, those from the least senders are kept.
use Rattle.std.proofs.Common.{Bool, true, false, is_le, nat_cmp, ◌≡◌, ◌≢◌, ℕ, ◌<◌, ◌≤◌, ◌⊎◌, inl, inr, List, [], ◌∷◌, ◌++◌, length, get_or, replicate, Contains, AllPairs, Option, Some, None, slice_set, nat_le, if◌then◌else◌, refl, sym, ap, ◌∙◌, subst, arith, length-set, leb-true, leb-false}
use Rattle.std.proofs.lemmas.List.{get_or-set_same, get_or-set_other, get_or-replicate, get_or_default, length-replicate}
use Rattle.std.proofs.lemmas.List.Elements.{Contains-push, Contains-append_left, Contains-push_cases}
use Rattle.std.proofs.lemmas.Bool.{cases_eq}
use Rattle.std.proofs.lemmas.Grind.{common_steps}
use Rattle.gen_types.specs.Members.{bool_cases, Contains_nil}
use Rattle.gen_types.specs.Ascending.{IsListOf}
use Rattle.gen_core.specs.declared.arrivals.Seen.{Seen}
use Rattle.gen_core.specs.Loops.Picking.{OrderIn, IsBest, AreBest}

-- of two chains the one from the lesser sender, or the earlier one if both have the same sender
abbrev pub better : Option Seen → Seen → Seen
better None seen = seen
better (Some before) seen = if nat_le before.from seen.from then before else seen

pub order_in_more : (xs : List Seen) (s : Seen) (v : ℕ) → OrderIn (xs ++ s ∷ []) v → OrderIn xs v ⊎ (v ≡ s.order)
order_in_more xs s v (t, h, e) = elim (Contains-push_cases xs s t h) [
  | inl k ↦ inl (t, k, e)
  | inr same ↦ inr (sym e ∙ ap (λ x. x.order) (sym same))
]

pub order_in_old : (xs : List Seen) (s : Seen) (v : ℕ) → OrderIn xs v → OrderIn (xs ++ s ∷ []) v
order_in_old xs s v (t, h, e) = (t, Contains-append_left xs (s ∷ []) t h, e)

pub order_in_new : (xs : List Seen) (s : Seen) → OrderIn (xs ++ s ∷ []) s.order
order_in_new xs s = (s, Contains-push xs s, refl)

pub best_start : (known : List ℕ) → AreBest known [] (replicate 16 None)
best_start known = record {
  long = length-replicate {A = Option Seen} 16 None;
  each = λ v l. subst (λ o. IsBest known [] v o) (sym (get_or-replicate {A = Option Seen} 16 v None None l)) (λ h. absurd (Contains_nil h.0 h.1));
}

-- a chain of another order changes nothing
other_best : (known : List ℕ) (xs : List Seen) (s : Seen) (v : ℕ) (o : Option Seen) → v ≢ s.order → IsBest known xs v o → IsBest known (xs ++ s ∷ []) v o
other_best known xs s v None ne b = λ h. elim (order_in_more xs s v h) [ inl k ↦ b k | inr e ↦ absurd (ne e) ]
other_best known xs s v (Some p) ne b = (
  Contains-append_left xs (s ∷ []) p b.0,
  b.1,
  b.2,
  λ t h e. elim (Contains-push_cases xs s t h) [
    | inl k ↦ b.3 t k e
    | inr same ↦ absurd (ne (sym e ∙ ap (λ x. x.order) (sym same)))
  ],
)

-- a chain of a known order changes nothing
known_best : (known : List ℕ) (xs : List Seen) (s : Seen) (v : ℕ) (o : Option Seen) → Contains known s.order → IsBest known xs v o → IsBest known (xs ++ s ∷ []) v o
known_best known xs s v None old b = λ h. elim (order_in_more xs s v h) [ inl k ↦ b k | inr e ↦ subst (λ w. Contains known w) (sym e) old ]
known_best known xs s v (Some p) old b = other_best known xs s v (Some p) (λ e. b.2 (subst (λ w. Contains known w) (sym e) old)) b

-- a chain of this order is weighed against the one before it
weighed : (known : List ℕ) (xs : List Seen) (s : Seen) (o : Option Seen) → (Contains known s.order → ⊥) → IsBest known xs s.order o → IsBest known (xs ++ s ∷ []) s.order (Some (better o s))
weighed known xs s None new b = (
  Contains-push xs s,
  refl,
  new,
  λ t h e. elim (Contains-push_cases xs s t h) [
    | inl k ↦ absurd (new (b (t, k, e)))
    | inr same ↦ rw (← same) (omega arith)
  ],
)
weighed known xs s (Some p) new b = elim (bool_cases (nat_le p.from s.from)) [
  | inl less ↦
      let le : p.from ≤ s.from = leb-true p.from s.from less in
      rw less (
        Contains-append_left xs (s ∷ []) p b.0,
        b.1,
        new,
        λ t h e. elim (Contains-push_cases xs s t h) [ inl k ↦ b.3 t k e | inr same ↦ rw (← same) le ],
      )
  | inr more ↦
      let lt : s.from < p.from = leb-false p.from s.from more in
      rw more (
        Contains-push xs s,
        refl,
        new,
        λ t h e. elim (Contains-push_cases xs s t h) [
          | inl k ↦ let le : p.from ≤ t.from = b.3 t k e in omega arith
          | inr same ↦ rw (← same) (omega arith)
        ],
      )
]

-- whether a number is at most another, as `<=` tells it
le_told : (a b : ℕ) → is_le (nat_cmp a b) ≡ nat_le a b
le_told a b = grind (arith, common_steps)

-- the chain before stays, as its sender is not greater
pub stays_better : (read : Option Seen) (before s : Seen) (less : Bool) → read ≡ Some before → less ≡ is_le (nat_cmp before.from s.from) → less ≡ true → Some before ≡ Some (better read s)
stays_better read before s less is told one =
    let le : nat_le before.from s.from ≡ true = sym (le_told before.from s.from) ∙ (sym told ∙ one) in
    rw (is, le) refl

-- the new chain takes its place
pub takes_better : (read : Option Seen) (before s : Seen) (less : Bool) → read ≡ Some before → less ≡ is_le (nat_cmp before.from s.from) → less ≡ false → Some s ≡ Some (better read s)
takes_better read before s less is told none =
    let gt : nat_le before.from s.from ≡ false = sym (le_told before.from s.from) ∙ (sym told ∙ none) in
    rw (is, gt) refl

-- the new chain is the first
pub first_better : (read : Option Seen) (s : Seen) → read ≡ None → Some s ≡ Some (better read s)
first_better read s is = rw is refl

pub best_known : (known : List ℕ) (xs : List Seen) (s : Seen) (picked : List (Option Seen)) → AreBest known xs picked → Contains known s.order → AreBest known (xs ++ s ∷ []) picked
best_known known xs s picked b old = record {
  long = b.long;
  each = λ v l. known_best known xs s v (get_or picked v None) old (b.each v l);
}

pub best_more : (known : List ℕ) (xs : List Seen) (s : Seen) (picked : List (Option Seen)) (read : Option Seen) (chosen : Option Seen) → AreBest known xs picked → s.order < 16 → (Contains known s.order → ⊥) → chosen ≡ Some (better (get_or picked s.order read) s)
    → AreBest known (xs ++ s ∷ []) (slice_set picked s.order chosen)
best_more known xs s picked read chosen b low new better_is =
    let inside : s.order < length picked = omega (arith, b.long) in
    record {
      long = length-set picked s.order chosen ∙ b.long;
      each = λ v l. elim (cases_eq v s.order) [
        | inr ne ↦ subst (λ o. IsBest known (xs ++ s ∷ []) v o) (sym (get_or-set_other picked s.order v chosen None ne)) (other_best known xs s v (get_or picked v None) ne (b.each v l))
        | inl e ↦
            let at : get_or (slice_set picked s.order chosen) v None ≡ Some (better (get_or picked s.order read) s) = ap (λ w. get_or (slice_set picked s.order chosen) w None) e ∙ (get_or-set_same picked s.order chosen None inside ∙ better_is) in
            let here : get_or picked s.order None ≡ get_or picked s.order read = get_or_default picked s.order None read inside in
            let before : IsBest known xs s.order (get_or picked s.order read) = subst (λ o. IsBest known xs s.order o) here (b.each s.order low) in
            subst (λ o. IsBest known (xs ++ s ∷ []) v o) (sym at) (subst (λ w. IsBest known (xs ++ s ∷ []) w (Some (better (get_or picked s.order read) s))) (sym e) (weighed known xs s (get_or picked s.order read) new before))
      ];
    }

-- the orders that are known
pub learn_start : (known : List ℕ) → AllPairs (λ v w. v < w) known → IsListOf known (λ v. Contains known v ⊎ OrderIn [] v)
learn_start known ascending = record {
  ascending = ascending;
  members = λ v. ((λ h. inl h), (λ h. elim h [ inl k ↦ k | inr none ↦ absurd (Contains_nil none.0 none.1) ]));
}

pub learn_more : (old known new : List ℕ) (xs : List Seen) (s : Seen) → IsListOf known (λ v. Contains old v ⊎ OrderIn xs v) → IsListOf new (λ v. Contains known v ⊎ (v ≡ s.order)) → IsListOf new (λ v. Contains old v ⊎ OrderIn (xs ++ s ∷ []) v)
learn_more old known new xs s k n = record {
  ascending = n.ascending;
  members = λ v. (
    (λ h. elim ((n.members v).0 h) [
      | inl in_known ↦ elim ((k.members v).0 in_known) [ inl o ↦ inl o | inr i ↦ inr (order_in_old xs s v i) ]
      | inr e ↦ inr (subst (λ w. OrderIn (xs ++ s ∷ []) w) (sym e) (order_in_new xs s))
    ]),
    (λ h. (n.members v).1 (elim h [
      | inl o ↦ inl ((k.members v).1 (inl o))
      | inr i ↦ elim (order_in_more xs s v i) [ inl j ↦ inl ((k.members v).1 (inr j)) | inr e ↦ inr e ]
    ])),
  );
}

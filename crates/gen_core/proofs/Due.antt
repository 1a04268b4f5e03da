-- What a lieutenant is to send, looked for one order and one receiver after another.
use Rattle.std.proofs.Common.{◌≡◌, ℕ, ◌+◌, ◌<◌, ◌⊎◌, ◌↔◌, inl, inr, List, [], ◌∷◌, ◌++◌, length, Contains, Option, Some, None, slice_get, refl, sym, ap, ◌∙◌, subst, arith}
use Rattle.std.proofs.lemmas.Bool.{cases_eq}
use Rattle.std.proofs.lemmas.List.Elements.{All-push, All-weaker}
use Rattle.std.proofs.lemmas.Option.{slice_get_within}
use Rattle.std.proofs.lemmas.List.Quantifiers.{all_pairs_push}
use Rattle.gen_net.specs.Network.{Network, rounds, AreNeighbours}
use Rattle.gen_core.specs.Seeing.{Picked}
use Rattle.gen_core.specs.declared.sending.Outgoing.{Outgoing}
use Rattle.gen_core.specs.Sending.{outgoing, GoesBefore, IsDue, Appends}
use Rattle.gen_core.specs.Loops.Pushing.{IsDueBelow, GoesUpTo}

-- of one order and receiver, where the path that is picked goes on
pub due_told : (net : Network) (me : ℕ) (adds : List (Option (List ℕ))) (to v : ℕ) (picked path : List ℕ) → Picked adds v picked → AreNeighbours net me to → length picked < rounds net → (Contains picked me → ⊥) → path ≡ picked ++ me ∷ [] → (Contains path to → ⊥)
    → (x : List ℕ) → (Some path ≡ Some x) ↔ IsDue net me adds (outgoing to v x)
due_told net me adds to v picked path at edge in_time new longer outside x = (
  (λ e.
      let same : path ≡ x = cc in
      record { picked = picked; is_picked = at; in_time = in_time; new = new; longer = sym same ∙ longer; neighbour = edge; outside = subst (λ p. Contains p to → ⊥) same outside }),
  (λ d.
      let e : slice_get adds v ≡ Some (Some d.picked) = d.is_picked in
      let same : d.picked ≡ picked = cc in
      ap Some (longer ∙ (ap (λ p. p ++ me ∷ []) (sym same) ∙ sym d.longer))),
)

-- where it does not go on
pub stopped_told : (net : Network) (me : ℕ) (adds : List (Option (List ℕ))) (to v : ℕ) (picked : List ℕ) → Picked adds v picked → (length picked < rounds net → (Contains picked me → ⊥) → (Contains (picked ++ me ∷ []) to → ⊥) → ⊥)
    → (x : List ℕ) → (None ≡ Some x) ↔ IsDue net me adds (outgoing to v x)
stopped_told net me adds to v picked at stops x = (
  (λ e. absurd (let f : ⊥ = cc in f)),
  (λ d.
      let e : slice_get adds v ≡ Some (Some d.picked) = d.is_picked in
      let same : d.picked ≡ picked = cc in
      absurd (stops (rw (← same) d.in_time) (rw (← same) d.new) (subst (λ p. Contains p to → ⊥) (d.longer ∙ ap (λ p. p ++ me ∷ []) same) d.outside))),
)

-- and where none is picked
pub none_told : (net : Network) (me : ℕ) (adds : List (Option (List ℕ))) (to v : ℕ) → ((path : List ℕ) → Picked adds v path → ⊥) → (x : List ℕ) → (None ≡ Some x) ↔ IsDue net me adds (outgoing to v x)
none_told net me adds to v none x = (
  (λ e. absurd (let f : ⊥ = cc in f)),
  (λ d. absurd (none d.picked d.is_picked)),
)

same_send : (x : Outgoing) (to v : ℕ) (path : List ℕ) → x.to ≡ to → x.order ≡ v → path ≡ x.path → outgoing to v path ≡ x
same_send x to v path a b c = λ i. record { to = sym a i; order = sym b i; path = c i }

pub more_due : (net : Network) (me : ℕ) (adds : List (Option (List ℕ))) (to n : ℕ) (r : Option (List ℕ)) → ((path : List ℕ) → (r ≡ Some path) ↔ IsDue net me adds (outgoing to n path)) → (path : List ℕ) → r ≡ Some path → (x : Outgoing) → IsDueBelow net me adds to (n + 1) x ↔ (IsDueBelow net me adds to n x ⊎ (outgoing to n path ≡ x))
more_due net me adds to n r told path is x = (
  (λ q. elim (cases_eq x.order n) [
    | inr ne ↦ inl (q.0, omega (arith, q.1), q.2)
    | inl e ↦
        let here : (outgoing to n x.path) ≡ x = same_send x to n x.path q.0 e refl in
        let same : r ≡ Some x.path = (told x.path).1 (subst (λ y. IsDue net me adds y) (sym here) q.2) in
        let one : path ≡ x.path = cc in
        inr (same_send x to n path q.0 e one)
  ]),
  (λ h. elim h [
    | inl p ↦ (p.0, omega (arith, p.1), p.2)
    | inr e ↦ subst (IsDueBelow net me adds to (n + 1)) e (refl, omega arith, (told path).0 is)
  ]),
)

pub no_due : (net : Network) (me : ℕ) (adds : List (Option (List ℕ))) (to n : ℕ) (r : Option (List ℕ)) → ((path : List ℕ) → (r ≡ Some path) ↔ IsDue net me adds (outgoing to n path)) → ((path : List ℕ) → r ≡ Some path → ⊥) → (x : Outgoing) → IsDueBelow net me adds to n x ↔ IsDueBelow net me adds to (n + 1) x
no_due net me adds to n r told none x = (
  (λ p. (p.0, omega (arith, p.1), p.2)),
  (λ q. elim (cases_eq x.order n) [
    | inr ne ↦ (q.0, omega (arith, q.1), q.2)
    | inl e ↦
        let here : (outgoing to n x.path) ≡ x = same_send x to n x.path q.0 e refl in
        absurd (none x.path ((told x.path).1 (subst (λ y. IsDue net me adds y) (sym here) q.2)))
  ]),
)

-- what is due is of an order that has a place
pub due_small : (net : Network) (me : ℕ) (adds : List (Option (List ℕ))) (x : Outgoing) → IsDue net me adds x → x.order < length adds
due_small net me adds x d = slice_get_within adds x.order (Some d.picked) d.is_picked

-- due to the receivers below n
abbrev pub DueRows : Network → ℕ → List (Option (List ℕ)) → ℕ → Outgoing → Type 0
DueRows net me adds n x = (x.to < n) × IsDue net me adds x

pub more_rows : (net : Network) (me : ℕ) (adds : List (Option (List ℕ))) (n most : ℕ) (old now new : List Outgoing) → ((x : Outgoing) → IsDue net me adds x → x.order < most) → Appends (DueRows net me adds n) old now → Appends (IsDueBelow net me adds n most) now new → Appends (DueRows net me adds (n + 1)) old new
more_rows net me adds n most old now new small so_far row x = (
  (λ h. elim ((row x).0 h) [
    | inl before ↦ elim ((so_far x).0 before) [ inl o ↦ inl o | inr p ↦ inr (omega (arith, p.0), p.1) ]
    | inr q ↦ inr (omega (arith, q.0), q.2)
  ]),
  (λ h. elim h [
    | inl o ↦ (row x).1 (inl ((so_far x).1 (inl o)))
    | inr q ↦ elim (cases_eq x.to n) [
      | inl e ↦ (row x).1 (inr (e, small x q.1, q.1))
      | inr ne ↦ (row x).1 (inl ((so_far x).1 (inr (omega (arith, q.0), q.1))))
    ]
  ]),
)

-- ---- order

pub one_order_more : (out : List Outgoing) (to n : ℕ) → GoesUpTo out to n → GoesUpTo out to (n + 1)
one_order_more out to n h = record {
  in_order = h.in_order;
  before = All-weaker (λ x. (x.to < to) ⊎ ((x.to ≡ to) × (x.order < n))) (λ x. (x.to < to) ⊎ ((x.to ≡ to) × (x.order < n + 1))) (λ x b. elim b [ inl l ↦ inl l | inr e ↦ inr (e.0, omega (arith, e.1)) ]) out h.before;
}

pub one_receiver_more : (out : List Outgoing) (to n : ℕ) → GoesUpTo out to n → GoesUpTo out (to + 1) 0
one_receiver_more out to n h = record {
  in_order = h.in_order;
  before = All-weaker (λ x. (x.to < to) ⊎ ((x.to ≡ to) × (x.order < n))) (λ x. (x.to < to + 1) ⊎ ((x.to ≡ to + 1) × (x.order < 0))) (λ x b. elim b [ inl l ↦ inl (omega arith) | inr e ↦ inl (omega (arith, e.0)) ]) out h.before;
}

pub pushed_in_order : (out new : List Outgoing) (to n : ℕ) (path : List ℕ) → GoesUpTo out to n → new ≡ out ++ (outgoing to n path) ∷ [] → GoesUpTo new to (n + 1)
pushed_in_order out new to n path h grown =
    let longer = one_order_more out to n h in
    rw grown (record {
      in_order = all_pairs_push GoesBefore out (outgoing to n path) h.in_order (λ k d l. h.before k d l);
      before = All-push (λ x. (x.to < to) ⊎ ((x.to ≡ to) × (x.order < n + 1))) out (outgoing to n path) longer.before (inr (refl, omega arith));
    })

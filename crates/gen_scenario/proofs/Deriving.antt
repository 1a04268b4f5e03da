-- What the faulty prolong is derivable: its path is cut behind its last general of the rest.
use Rattle.std.proofs.Common.{◌≡◌, ℕ, ◌⊎◌, inl, inr, List, [], ◌∷◌, ◌++◌, Contains, refl, sym, ap, ◌∙◌, subst, append_assoc}
use Rattle.std.proofs.lemmas.List.Elements.{All-contains, Contains-append_cases}
use Rattle.gen_types.proofs.Lists.{Contains_cases, Contains_nil, All_of}
use Rattle.gen_net.specs.Network.{IsLoyal}
use Rattle.gen_scenario.specs.Derivables.{SignedByFaulty, ProlongedByFaulty}
use Rattle.gen_scenario.proofs.Agree.{decide_loyal}

-- the last number of a list with a decided property, or none
last_member : (P : ℕ → Type 0) → ((n : ℕ) → P n ⊎ (P n → ⊥)) → (xs : List ℕ) → ((x : ℕ) → Contains xs x → P x → ⊥) ⊎ ((front : List ℕ) × (y : ℕ) × (back : List ℕ) × (xs ≡ front ++ y ∷ back) × P y × ((x : ℕ) → Contains back x → P x → ⊥))
last_member P dec [] = inl (λ x h p. Contains_nil x h)
last_member P dec (a ∷ xs) = elim (last_member P dec xs) [
  | inr s ↦ inr (a ∷ s.0, s.1, s.2, ap (λ (ys : List ℕ). a ∷ ys) s.3, s.4, s.5)
  | inl none ↦ elim (dec a) [
    | inl p ↦ inr ([], a, xs, refl, p, none)
    | inr not_a ↦ inl (λ x h p. elim (Contains_cases a x xs h) [ inl e ↦ not_a (subst P (sym e) p) | inr k ↦ none x k p ])
  ]
]

pub signed_by_faulty : SignedByFaulty
signed_by_faulty net faulty run message all = inl (All_of (λ g. IsLoyal net faulty g → ⊥) message.path (λ g h loyal. loyal.1 (All-contains (λ x. Contains faulty x) message.path g all h)))

pub prolonged_by_faulty : ProlongedByFaulty
prolonged_by_faulty net faulty run source message heard p =
    let nobody_added : (g : ℕ) → Contains p.added g → IsLoyal net faulty g → ⊥ = λ g h loyal. loyal.1 (All-contains (λ x. Contains faulty x) p.added g p.by_faulty h) in
    elim (last_member (IsLoyal net faulty) (decide_loyal net faulty) p.kept) [
      | inl nobody ↦ inl (All_of (λ g. IsLoyal net faulty g → ⊥) message.path (λ g h loyal. elim (Contains-append_cases p.kept p.added g (subst (λ path. Contains path g) p.path h)) [
        | inl k ↦ nobody g k loyal
        | inr a ↦ nobody_added g a loyal
      ]))
      | inr s ↦ inr (record {
        front = s.0;
        last = s.1;
        after = s.2 ++ p.added;
        parts = p.path ∙ ap (λ kept. kept ++ p.added) s.3 ∙ append_assoc s.0 (s.1 ∷ s.2) p.added ∙ sym (append_assoc s.0 (s.1 ∷ []) (s.2 ++ p.added));
        last_loyal = s.4;
        nobody_after = All_of (λ g. IsLoyal net faulty g → ⊥) (s.2 ++ p.added) (λ g h loyal. elim (Contains-append_cases s.2 p.added g h) [ inl b ↦ s.5 g b loyal | inr a ↦ nobody_added g a loyal ]);
        source = source;
        sent = heard.sent;
        from_loyal = heard.from_loyal;
        to_faulty = heard.to_faulty;
        same_order = p.same_order;
        earlier = p.later;
        begun = (s.2 ++ p.front.0, p.front.1 ∙ ap (λ kept. kept ++ p.front.0) s.3 ∙ append_assoc s.0 (s.1 ∷ s.2) p.front.0 ∙ sym (append_assoc s.0 (s.1 ∷ []) (s.2 ++ p.front.0)));
      })
    ]

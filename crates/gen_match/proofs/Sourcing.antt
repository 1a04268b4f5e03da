-- A path has one last general of the rest.
use Rattle.std.proofs.Common.{◌≡◌, ℕ, ◌+◌, inl, inr, List, [], ◌∷◌, ◌++◌, length, Contains, All, refl, sym, ap, ◌∙◌, subst, arith, append_assoc, length-append}
use Rattle.std.proofs.lemmas.List.Elements.{All-contains}
use Rattle.gen_types.proofs.Lists.{split_front, Contains-middle}
use Rattle.gen_net.specs.Network.{IsLoyal}
use Rattle.gen_types.specs.Ends.{BeginsWith}
use Rattle.gen_match.specs.Sources.{DerivableAtLast}

no_more : (a : ℕ) (xs : List ℕ) → a ≡ a + length xs → xs ≡ []
no_more a [] e = refl
no_more a (x ∷ xs) e = absurd (omega (arith, e))

-- two splits behind the last that has a property are one
one_last : (P : ℕ → Type 0) (front other : List ℕ) (last end : ℕ) (forged after : List ℕ) → (front ++ last ∷ []) ++ forged ≡ (other ++ end ∷ []) ++ after → P last → P end → All (λ g. P g → ⊥) forged → All (λ g. P g → ⊥) after → other ++ end ∷ [] ≡ front ++ last ∷ []
one_last P front other last end forged after e p_last p_end none_forged none_after =
    let r = split_front front forged (other ++ end ∷ []) after last (sym (append_assoc front (last ∷ []) forged) ∙ e) (λ h. All-contains (λ g. P g → ⊥) after last none_after h p_last) in
    let s = split_front other after (front ++ last ∷ []) forged end (sym (append_assoc other (end ∷ []) after) ∙ sym e) (λ h. All-contains (λ g. P g → ⊥) forged end none_forged h p_end) in
    let a = ap length r.1 in
    let b = ap length s.1 in
    let nothing : r.0 ≡ [] = no_more (length front) r.0 (omega (arith, a, b, length-append other (end ∷ []), length-append front (last ∷ []), length-append front (last ∷ r.0), length-append other (end ∷ s.0))) in
    r.1 ∙ ap (λ xs. front ++ last ∷ xs) nothing

pub derivable_at_last : DerivableAtLast
derivable_at_last net faulty logs v path front last forged parts loyal nobody = (
  (λ d. elim d [
    | inl none ↦ absurd (All-contains (λ g. IsLoyal net faulty g → ⊥) path last none (subst (λ p. Contains p last) (sym (parts ∙ append_assoc front (last ∷ []) forged)) (Contains-middle front last forged)) loyal)
    | inr d ↦ record {
      from = d.from;
      to = d.to;
      source = d.source;
      from_rest = d.from_rest;
      to_faulty = d.to_faulty;
      sent = d.sent;
      earlier = d.earlier;
      begun = subst (BeginsWith d.source) (one_last (IsLoyal net faulty) front d.front last d.last forged d.after (sym parts ∙ d.parts) loyal d.last_loyal nobody d.nobody_after) d.begun;
    }
  ]),
  (λ s. inr (record {
    front = front;
    last = last;
    after = forged;
    parts = parts;
    last_loyal = loyal;
    nobody_after = nobody;
    from = s.from;
    to = s.to;
    source = s.source;
    from_rest = s.from_rest;
    to_faulty = s.to_faulty;
    sent = s.sent;
    earlier = s.earlier;
    begun = s.begun;
  })),
)

-- What is added to a list, one element after another.
use Rattle.std.proofs.Common.{◌≡◌, ◌⊎◌, ◌↔◌, inl, inr, List, [], ◌∷◌, ◌++◌, Contains, subst}
use Rattle.std.proofs.lemmas.List.Elements.{Contains-push, Contains-append_left, Contains-push_cases}
use Rattle.gen_core.specs.Sending.{Appends}

-- one more is appended
pub appended : {X : Type 0} (P Q : X → Type 0) (old now new : List X) (y : X) → Appends P old now → new ≡ now ++ y ∷ [] → ((x : X) → Q x ↔ (P x ⊎ (y ≡ x))) → Appends Q old new
appended P Q old now new y so_far grown same x = (
  (λ h. let h' : Contains (now ++ y ∷ []) x = rw grown at h in elim (Contains-push_cases now y x h') [
    | inl k ↦ elim ((so_far x).0 k) [ inl o ↦ inl o | inr p ↦ inr ((same x).1 (inl p)) ]
    | inr e ↦ inr ((same x).1 (inr e))
  ]),
  (λ h. rw grown (elim h [
    | inl o ↦ Contains-append_left now (y ∷ []) x ((so_far x).1 (inl o))
    | inr q ↦ elim ((same x).0 q) [
      | inl p ↦ Contains-append_left now (y ∷ []) x ((so_far x).1 (inr p))
      | inr e ↦ subst (λ z. Contains (now ++ y ∷ []) z) e (Contains-push now y)
    ]
  ])),
)

-- the same is appended, said otherwise
pub appended_same : {X : Type 0} (P Q : X → Type 0) (old new : List X) → Appends P old new → ((x : X) → P x ↔ Q x) → Appends Q old new
appended_same P Q old new so_far same x = (
  (λ h. elim ((so_far x).0 h) [ inl o ↦ inl o | inr p ↦ inr ((same x).0 p) ]),
  (λ h. elim h [ inl o ↦ (so_far x).1 (inl o) | inr q ↦ (so_far x).1 (inr ((same x).1 q)) ]),
)

-- Answers that a loop fills in, one for each claim.
use Rattle.std.proofs.Common.{◌≡◌, ◌↔◌, ℕ, ◌<◌, ◌+◌, Bool, IsTrue, List, length, slice_index_or, slice_set, replicate, subst, arith, ◌∙◌}
use Rattle.std.proofs.lemmas.List.{get_or_default, length-replicate, length-set}
use Rattle.sha_lanes.specs.declared.words.TheConstants.{LANES}
use Rattle.sha_lanes.proofs.LaneFacts.{each_more}

-- the answer to what stands at a place, whatever stands there where there is none
pub answers_at : {X : Type 0} (P : X → Type 0) (xs : List X) (j : ℕ) (d other : X) (answer : Bool) → j < length xs
    → IsTrue answer ↔ P (slice_index_or xs j d) → IsTrue answer ↔ P (slice_index_or xs j other)
answers_at P xs j d other answer below right =
    subst (λ x. IsTrue answer ↔ P x) (get_or_default xs j d other below) right

-- the first n answers say of which of the elements the property holds
abbrev pub Answers : {X : Type 0} → (X → Type 0) → List X → ℕ → List Bool → Type 0
Answers {X} P xs n answers =
    (length answers ≡ LANES)
    × ((j : ℕ) → j < n → (d : Bool) → (other : X) → IsTrue (slice_index_or answers j d) ↔ P (slice_index_or xs j other))

pub none_answered : {X : Type 0} (P : X → Type 0) (xs : List X) (first : Bool) → Answers P xs 0 (replicate LANES first)
none_answered P xs first = (length-replicate LANES first, λ j none. absurd (omega arith))

pub one_answered : {X : Type 0} (P : X → Type 0) (xs : List X) (i : ℕ) (d : X) (answer : Bool) (answers : List Bool)
    → i < length xs → i < LANES → IsTrue answer ↔ P (slice_index_or xs i d) → Answers P xs i answers
    → Answers P xs (i + 1) (slice_set answers i answer)
one_answered {X} P xs i d answer answers inside below right before =
    let long : i < length answers = omega (arith, before.0) in (
      length-set answers i answer ∙ before.0,
      each_more (λ (k : ℕ) (b : Bool). (other : X) → IsTrue b ↔ P (slice_index_or xs k other)) answers i answer long
          (λ other. answers_at P xs i d other answer inside right) before.1,
    )

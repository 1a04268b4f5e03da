-- What a caller in another language is handed of what is held.
use Rattle.std.specs.Prelude.{ℕ, ◌≡◌, ◌<◌, ◌⊎◌, ◌++◌, List, length, drop, Option, Some, None}
use Rattle.sm_embed.specs.declared.kept.Kept.{Kept}

-- The items are put in front of the room, which is otherwise as it was, and the number is 0; or they are more
-- than the room has, which is as it was, and the number is 5. Their number is counted in both cases.
abbrev pub Puts : {A : Type 0} → List A → List A → List A → ℕ → ℕ → Type 0
Puts items old new count status =
    (count ≡ length items)
    × ((status ≡ 0) × (new ≡ items ++ drop (length items) old)
    ⊎ ((status ≡ 5) × (length old < length items) × (new ≡ old)))

-- items of what is held are put into the room; if nothing is held, the number is 2, and the room is as it was
abbrev pub Hands : {A : Type 0} → (Kept → List A) → Option Kept → List A → List A → ℕ → ℕ → Type 0
Hands items None old new count status = (status ≡ 2) × (count ≡ 0) × (new ≡ old)
Hands items (Some kept) old new count status = Puts (items kept) old new count status

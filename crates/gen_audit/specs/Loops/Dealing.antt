-- Pieces dealt to workers in turn. There are last + 1 workers.
use Rattle.std.specs.Prelude.{ℕ, zero, suc, List, [], ◌∷◌}

-- the pieces of a worker whose turn comes after that of k others
abbrev pub dealt : {X : Type 0} → ℕ → ℕ → List X → List X
dealt last k [] = []
dealt last zero (x ∷ xs) = x ∷ dealt last last xs
dealt last (suc k) (x ∷ xs) = dealt last k xs

-- the piece, if no other worker's turn comes first; and the number of workers whose turn comes first after
-- this piece
abbrev pub gets : {X : Type 0} → ℕ → X → List X
gets zero x = x ∷ []
gets (suc k) x = []

abbrev pub turn_after : ℕ → ℕ → ℕ
turn_after last zero = last
turn_after last (suc k) = k

-- each element has the property of its index, counted from k
abbrev pub Each : {X : Type 0} → (ℕ → X → Type 0) → ℕ → List X → Type 0
Each P k [] = Unit {0}
Each P k (x ∷ xs) = P k x × Each P (suc k) xs

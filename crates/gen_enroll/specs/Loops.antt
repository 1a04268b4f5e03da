-- The states of sets that follow one another.
use Rattle.std.specs.Prelude.{ℕ, zero, suc, List, [], ◌∷◌, ◌++◌}
use Rattle.gen_identity.specs.States.{state_after}

-- a state and those behind it, n in all
unfoldable pub set_states : List ℕ → ℕ → List (List ℕ)
set_states state zero = []
set_states state (suc n) = set_states state n ++ state_after state n ∷ []

-- A property that holds of each element of a list, with its index.
use Rattle.std.specs.Prelude.{ℕ, ◌≡◌, ◌<◌, List, length, slice_index_or}

-- the list has n elements, and the property holds of each index below n with the element there
pub record AllAre {X : Type 0} (P : ℕ → X → Type 0) (n : ℕ) (xs : List X) : Type 0 where
  pub count : length xs ≡ n
  pub each : (g : ℕ) (d : X) → g < n → P g (slice_index_or xs g d)

-- What is left of an input that is read from left to right.
use Rattle.std.specs.Prelude.{ℕ, ◌≡◌, List, ◌++◌}

-- the rest is an end of the whole
pub record IsEndOf (all rest : List ℕ) : Type 0 where
  pub front : List ℕ
  pub parts : all ≡ front ++ rest

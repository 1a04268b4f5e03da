-- Parcels that a node holds for a neighbour or has from it.
use Rattle.std.specs.Prelude.{ℕ, ◌==◌, if◌then◌else◌, List, [], ◌∷◌, Option, Some, None, unwrap_or}

-- a neighbour, and the parcels of the frame to it or from it
pub record Held : Type 0 where
  pub general : ℕ
  pub parcels : List (List ℕ)

-- the parcels of the first entry for a general, if there is one
unfoldable pub held_of : ℕ → List Held → Option (List (List ℕ))
held_of g [] = None
held_of g (h ∷ others) = if h.general == g then Some h.parcels else held_of g others

-- the parcels of a general's frame: none if there is no entry for it, as if it sent nothing
abbrev pub frame_in : ℕ → List Held → List (List ℕ)
frame_in g rows = unwrap_or (held_of g rows) []

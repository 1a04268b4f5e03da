-- The lines of edges, up to the first line that is no line of an edge.
use Rattle.std.specs.Prelude.{ℕ, ◌+◌, List, [], ◌∷◌, codes, Option, Some, None, Result, Ok, Err, if◌then◌else◌}
use Rattle.std.specs.Str.{bytes_eq}
use Rattle.gen_types.specs.Reading.{◌>>=◌}
use Rattle.gen_text.specs.declared.fault.LineFault.TheVariants.{Unfinished}
use Rattle.gen_text.specs.declared.fault.ScenarioFault.{ScenarioFault}
use Rattle.gen_text.specs.Cursor.{Cursor, Line}
use Rattle.gen_text.specs.LineReading.{fault_at, number_in}
use Rattle.gen_text.specs.CursorReading.{next_line}

-- the edge of the line k; None if it is no line of an edge
unfoldable pub edge_in : ℕ → List (List ℕ) → Result (Option (ℕ × ℕ)) ScenarioFault
edge_in k (w ∷ x ∷ y ∷ []) = if bytes_eq w (codes "edge") then (do
  a ← number_in k x
  b ← number_in k y
  Ok (Some (a, b))) else Ok None
edge_in k _ = Ok None

-- the edges of some lines, the first line after them, and the cursor behind that line
pub record EdgeLines : Type 0 where
  pub found : List (ℕ × ℕ)
  pub next : Line
  pub after : Cursor

-- one more edge, in front of others
abbrev pub with_edge : Result EdgeLines ScenarioFault → ℕ × ℕ → Result EdgeLines ScenarioFault
with_edge others e = do
  o ← others
  Ok (record o { found = e ∷ o.found })

-- what this line and the lines after it give
abbrev pub after_edge : Option (ℕ × ℕ) → Line × Cursor → Result EdgeLines ScenarioFault
    → Result EdgeLines ScenarioFault
after_edge None l others = Ok (record { found = []; next = l.0; after = l.1 })
after_edge (Some e) l others = with_edge others e

-- the edges of the lines from k on, with the line after them; or the first fault
unfoldable pub edge_lines_at : ℕ → List (List ℕ) → Result EdgeLines ScenarioFault
edge_lines_at k [] = Err (fault_at Unfinished k)
edge_lines_at k (line ∷ more) = do
  l ← next_line (record { line = k; parts = line ∷ more })
  edge ← edge_in l.0.number l.0.fields
  after_edge edge l (edge_lines_at (k + 1) more)

-- The lines of a network in a text, from that of the generals to that of the choice.
use Rattle.std.specs.Prelude.{ℕ, List, [], ◌∷◌, ◌++◌, ◌<◌, map, codes, Result}
use Rattle.std.specs.List.{AllByRecursion}
use Rattle.gen_types.specs.Reading.{◌>>=◌}
use Rattle.gen_net.specs.declared.numbers.NetNumbers.{NetNumbers}
use Rattle.gen_net.specs.Network.{Network}
use Rattle.gen_text.specs.declared.fault.ScenarioFault.{ScenarioFault}
use Rattle.gen_text.specs.Cursor.{Cursor}
use Rattle.gen_text.specs.Fields.{edge_line, said}
use Rattle.gen_text.specs.NumbersReading.{net_behind, opening_at}

-- the network whose lines begin at a cursor, and the cursor after the line of its choice
unfoldable pub net_at : Cursor → Result (Network × Cursor) ScenarioFault
net_at c = do
  o ← opening_at c
  net_behind o

-- the lines of a network's numbers and edges, each as its fields
abbrev pub net_lines : NetNumbers → List (ℕ × ℕ) → List (List (List ℕ))
net_lines numbers edges =
    said (codes "generals") numbers.generals ∷ (map edge_line edges
    ++ (said (codes "traitors") numbers.traitors ∷ said (codes "diameter") numbers.diameter
    ∷ said (codes "orders") numbers.orders ∷ said (codes "choice") numbers.choice ∷ []))

-- Each number of these lines is at most 255.
pub record FitBytes (numbers : NetNumbers) (given : List (ℕ × ℕ)) : Type 0 where
  pub generals : numbers.generals < 256
  pub edges : AllByRecursion (λ e. (e.0 < 256) × (e.1 < 256)) given
  pub traitors : numbers.traitors < 256
  pub diameter : numbers.diameter < 256
  pub orders : numbers.orders < 256
  pub choice : numbers.choice < 256

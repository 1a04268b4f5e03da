-- The numbers and the edges of a network and the commander's order, line by line, with their first fault.
use Rattle.std.specs.Prelude.{ℕ, List, codes, Result, Ok, nat_lt}
use Rattle.gen_types.specs.Reading.{◌>>=◌, check, map_fault}
use Rattle.gen_net.specs.declared.fault.HeaderFault.{HeaderFault}
use Rattle.gen_net.specs.declared.numbers.NetNumbers.{NetNumbers}
use Rattle.gen_net.specs.Network.{Network}
use Rattle.gen_net.specs.NetworkOf.{network_of}
use Rattle.gen_scenario.specs.Scenario.{Plain}
use Rattle.gen_text.specs.declared.fault.LineFault.TheVariants as faults
use Rattle.gen_text.specs.declared.fault.ScenarioFault.{ScenarioFault}
use Rattle.gen_text.specs.Cursor.{Cursor}
use Rattle.gen_text.specs.LineReading.{fault_at, number_behind}
use Rattle.gen_text.specs.CursorReading.{numbered}
use Rattle.gen_text.specs.EdgeReading.{edge_lines_at}

-- what the lines up to that of the traitors say, and the cursor after them
pub record Opening : Type 0 where
  pub generals : ℕ
  pub edges : List (ℕ × ℕ)
  pub traitors : ℕ
  pub after : Cursor

-- what the lines after that of the generals say, up to that of the traitors; there are `generals` generals
abbrev pub opening_behind : ℕ → Cursor → Result Opening ScenarioFault
opening_behind generals c = do
  edges ← edge_lines_at c.line c.parts
  m ← number_behind edges.next.number (codes "traitors") edges.next.fields
  Ok (record { generals = generals; edges = edges.found; traitors = m; after = edges.after })

-- what the lines from a cursor on say, from that of the generals up to that of the traitors
unfoldable pub opening_at : Cursor → Result Opening ScenarioFault
opening_at c = do
  n ← numbered (codes "generals") c
  opening_behind n.0.value n.1

-- what the three lines after that of the traitors say, the number of the last of them, and the cursor after
-- them
pub record Settings : Type 0 where
  pub diameter : ℕ
  pub orders : ℕ
  pub choice : ℕ
  pub line : ℕ
  pub after : Cursor

-- what the lines of the diameter, the orders and the choice say, which begin at a cursor
unfoldable pub settings_at : Cursor → Result Settings ScenarioFault
settings_at start = do
  d ← numbered (codes "diameter") start
  q ← numbered (codes "orders") d.1
  c ← numbered (codes "choice") q.1
  Ok (record { diameter = d.0.value; orders = q.0.value; choice = c.0.value; line = c.0.line; after = c.1 })

-- the numbers of the network that all these lines say
abbrev pub numbers_said : Opening → Settings → NetNumbers
numbers_said o s =
    record {
      generals = o.generals;
      traitors = o.traitors;
      diameter = s.diameter;
      orders = s.orders;
      choice = s.choice;
    }

-- the network; if a rule is broken, that is the fault of the line k
abbrev pub network_at : ℕ → Result Network HeaderFault → Result Network ScenarioFault
network_at k made = map_fault (λ f. fault_at (faults.Network f) k) made

-- the order, which must be one of the network's, and the cursor after its line
unfoldable pub order_at : Network → Cursor → Result (Plain × Cursor) ScenarioFault
order_at net c = do
  v ← numbered (codes "order") c
  known ← check (nat_lt v.0.value net.orders) (fault_at faults.UnknownOrder v.0.line)
  Ok (record { net = net; order = v.0.value }, v.1)

-- the network that begins with these opening lines, and the cursor after the line of its choice
abbrev pub net_behind : Opening → Result (Network × Cursor) ScenarioFault
net_behind o = do
  s ← settings_at o.after
  net ← network_at s.line (network_of (numbers_said o s) o.edges)
  Ok (net, s.after)

-- the network and the order that begin with these opening lines, and the cursor after their lines
abbrev pub plain_behind : Opening → Result (Plain × Cursor) ScenarioFault
plain_behind o = do
  net ← net_behind o
  order_at net.0 net.1

-- the network and the order whose lines begin at a cursor, and the cursor after their lines
unfoldable pub plain_at : Cursor → Result (Plain × Cursor) ScenarioFault
plain_at c = do
  o ← opening_at c
  plain_behind o

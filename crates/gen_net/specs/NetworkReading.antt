-- Reading a network's numbers and edges, before they are tested.
use Rattle.std.specs.Prelude.{ℕ, List, Result, Ok}
use Rattle.gen_types.specs.Reading.{◌>>=◌}
use Rattle.gen_types.specs.Bytes.{byte_at, many_at}
use Rattle.gen_net.specs.declared.fault.HeaderFault.{HeaderFault}
use Rattle.gen_net.specs.declared.fault.HeaderFault.TheVariants.{Truncated}
use Rattle.gen_net.specs.declared.numbers.NetNumbers.{NetNumbers}

-- reads n, m, d, q and the choice, a byte each: the numbers and the bytes after them, or Truncated
unfoldable pub numbers_at : List ℕ → Result (NetNumbers × List ℕ) HeaderFault
numbers_at bytes = do
  generals ← byte_at Truncated bytes
  traitors ← byte_at Truncated generals.1
  diameter ← byte_at Truncated traitors.1
  orders ← byte_at Truncated diameter.1
  choice ← byte_at Truncated orders.1
  Ok (
    record {
      generals = generals.0;
      traitors = traitors.0;
      diameter = diameter.0;
      orders = orders.0;
      choice = choice.0;
    },
    choice.1,
  )

-- reads one edge, two bytes: the edge and the bytes after it, or Truncated
unfoldable pub edge_at : List ℕ → Result ((ℕ × ℕ) × List ℕ) HeaderFault
edge_at bytes = do
  low ← byte_at Truncated bytes
  high ← byte_at Truncated low.1
  Ok ((low.0, high.0), high.1)

-- reads the edges behind their number: the edges and the bytes after them, or Truncated
unfoldable pub edges_at : List ℕ → Result (List (ℕ × ℕ) × List ℕ) HeaderFault
edges_at bytes = do
  count ← byte_at Truncated bytes
  many_at edge_at count.0 count.1

-- Reading a header. An unknown version is met first, then too few bytes, then the first rule that its network
-- or its slot breaks.
use Rattle.std.specs.Prelude.{ℕ, List, Result, Ok}
use Rattle.gen_types.specs.Reading.{◌>>=◌}
use Rattle.gen_types.specs.Bytes.{bytes_at, many_at}
use Rattle.gen_net.specs.declared.fault.HeaderFault.{HeaderFault}
use Rattle.gen_net.specs.declared.fault.HeaderFault.TheVariants.{Truncated}
use Rattle.gen_net.specs.declared.numbers.NetNumbers.{NetNumbers}
use Rattle.gen_net.specs.NetworkOf.{network_in_place}
use Rattle.gen_net.specs.NetworkReading.{numbers_at, edges_at}
use Rattle.gen_net.specs.Header.{RunHeader, root_length, header_with}
use Rattle.gen_net.specs.VersionReading.{version_at}

-- reads one root: its 32 bytes and the bytes after them, or Truncated
abbrev pub root_at : List ℕ → Result (List ℕ × List ℕ) HeaderFault
root_at bytes = bytes_at Truncated root_length bytes

-- the parts of a header after its version
pub record Parts : Type 0 where
  pub numbers : NetNumbers
  pub edges : List (ℕ × ℕ)
  pub roots : List (List ℕ)

-- reads the numbers, edges and roots after a version: these and the bytes after them, or Truncated
unfoldable pub parts_at : List ℕ → Result (Parts × List ℕ) HeaderFault
parts_at bytes = do
  numbers ← numbers_at bytes
  edges ← edges_at numbers.1
  roots ← many_at root_at numbers.0.generals edges.1
  Ok (record { numbers = numbers.0; edges = edges.0; roots = roots.0 }, roots.1)

-- reads a header: the header and the bytes after it, or the first fault
unfoldable pub header_at : List ℕ → Result (RunHeader × List ℕ) HeaderFault
header_at bytes = do
  version ← version_at bytes
  parts ← parts_at version.1
  net ← network_in_place parts.0.numbers parts.0.edges
  header ← header_with version.0 net parts.0.roots
  Ok (header, parts.1)

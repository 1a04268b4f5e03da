-- Headers as bytes that are handed in, and as they are made from numbers, edges and roots.
use Rattle.std.specs.Prelude.{ℕ, ◌≡◌, ◌==◌, if◌then◌else◌, List, length, map, Option, None, Some, Result, Ok, Err}
use Rattle.std.specs.Prelude.{slice_index_or}
use Rattle.gen_types.specs.Reading.{◌>>=◌, check, map_fault}
use Rattle.gen_types.specs.Spelled.{counted}
use Rattle.gen_net.specs.declared.fault.HeaderFault.{HeaderFault}
use Rattle.gen_net.specs.declared.fault.HeaderFault.TheVariants.{UnknownVersion}
use Rattle.gen_net.specs.declared.numbers.NetNumbers.{NetNumbers}
use Rattle.gen_net.specs.declared.version.Version.TheVariants.{One, Two}
use Rattle.gen_net.specs.Header.{RunHeader, header_spelling, header_with}
use Rattle.gen_net.specs.HeaderReading.{header_at}
use Rattle.gen_net.specs.Network.{Network}
use Rattle.gen_net.specs.NetworkOf.{network_of}
use Rattle.gen_plan.specs.EqualRoots.{equal_roots, first_pair}
use Rattle.sm_node.specs.declared.faults.BytesFault.{BytesFault}
use Rattle.sm_node.specs.declared.faults.BytesFault.TheVariants.{BadHeader, LeftOver}
use Rattle.sm_node.specs.declared.faults.MakingFault.{MakingFault}
use Rattle.sm_node.specs.declared.faults.MakingFault.TheVariants.{Broken, EqualRoots}
use Rattle.sm_node.specs.declared.faults.SmPair.{SmPair}
use Rattle.sm_node.specs.declared.headers.SmNumbers.{SmNumbers}
use Rattle.sm_node.specs.declared.told.NodeReply.{NodeReply}
use Rattle.sm_node.specs.declared.told.NodeReply.TheVariants.{Done, Misuse, Fault, Memory, Length}
use Rattle.sm_node.specs.Faults.{making_number, making_pair, no_pair}
use Rattle.sm_node.specs.Handing.{IsUntouched, PutsText}

-- the header in front of the bytes, and its number of bytes; or the first fault
abbrev pub front_in : List ℕ → Result (RunHeader × ℕ) BytesFault
front_in bytes = map_fault BadHeader (counted header_at bytes)

-- the header that all the bytes are, or their first fault
unfoldable pub header_in : List ℕ → Result RunHeader BytesFault
header_in bytes = do
  found ← front_in bytes
  whole ← check (found.1 == length bytes) LeftOver
  Ok found.0

-- the two ends of an edge
abbrev pub ends_of : List ℕ → ℕ × ℕ
ends_of edge = (slice_index_or edge 0 0, slice_index_or edge 1 0)

-- the numbers of a network among the numbers of a header
abbrev pub net_numbers : SmNumbers → NetNumbers
net_numbers n = record {
  generals = n.generals;
  traitors = n.traitors;
  diameter = n.diameter;
  orders = n.orders;
  choice = n.choice;
}

-- the network of these numbers and edges, or the first rule that they break
abbrev pub net_made : SmNumbers → List (List ℕ) → Result Network HeaderFault
net_made numbers edges = network_of (net_numbers numbers) (map ends_of edges)

-- the header of this network and these roots in the version of the numbers, 1 or 2; or the first rule that
-- they break
abbrev pub header_over : SmNumbers → Network → List (List ℕ) → Result RunHeader HeaderFault
header_over numbers net roots =
    if numbers.version == 1 then header_with One net roots
    else if numbers.version == 2 then header_with (Two numbers.slot) net roots
    else Err UnknownVersion

-- the header of these numbers, edges and roots, or the first rule that they break
unfoldable pub header_made : SmNumbers → List (List ℕ) → List (List ℕ) → Result RunHeader HeaderFault
header_made numbers edges roots = do
  net ← net_made numbers edges
  header_over numbers net roots

-- the header, unless two of its generals have the same root
abbrev pub unless_shared : RunHeader → Option (ℕ × ℕ) → Result RunHeader MakingFault
unless_shared h None = Ok h
unless_shared h (Some pair) = Err (EqualRoots pair.0 pair.1)

-- the header of these numbers, edges and roots, each of whose generals has a root of its own; or the first
-- rule that they break, or the least pair of generals with the same root
unfoldable pub header_given : SmNumbers → List (List ℕ) → List (List ℕ) → Result RunHeader MakingFault
header_given numbers edges roots = do
  h ← map_fault Broken (header_made numbers edges roots)
  unless_shared h (first_pair (equal_roots h))

-- the header's bytes are handed out, or their length alone; or the number of a fault is told, and the two
-- generals if they have the same root
abbrev pub MakesHeader : Result RunHeader MakingFault → List ℕ → List ℕ → ℕ → ℕ → SmPair → NodeReply
    → Type 0
MakesHeader given old new count fault pair Done =
    (fault ≡ 0) × (pair ≡ no_pair)
    × ((h : RunHeader) × (given ≡ Ok h) × PutsText (header_spelling h) old new count Done)
MakesHeader given old new count fault pair Length =
    (fault ≡ 0) × (pair ≡ no_pair)
    × ((h : RunHeader) × (given ≡ Ok h) × PutsText (header_spelling h) old new count Length)
MakesHeader given old new count fault pair Fault =
    IsUntouched old new count
    × ((f : MakingFault) × (given ≡ Err f) × (fault ≡ making_number f) × (pair ≡ making_pair f))
MakesHeader given old new count fault pair Memory = (fault ≡ 0) × (pair ≡ no_pair) × IsUntouched old new count
MakesHeader given old new count fault pair Misuse = ⊥

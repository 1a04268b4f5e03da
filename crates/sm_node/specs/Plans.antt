-- What is told of the header that bytes are.
use Rattle.std.specs.Prelude.{ℕ, ◌≡◌, List, Ok, Err}
use Rattle.gen_types.specs.Ascending.{IsListOf}
use Rattle.gen_types.specs.Bits.{bits_of}
use Rattle.gen_types.specs.ChoiceOf.{choice_number}
use Rattle.gen_net.specs.declared.version.Version.{Version}
use Rattle.gen_net.specs.declared.version.Version.TheVariants.{One, Two}
use Rattle.gen_net.specs.Header.{RunHeader, run_id_of, slot_of}
use Rattle.gen_net.specs.Network.{AreNeighbours, rounds}
use Rattle.gen_net.specs.Version.{version_one, version_two}
use Rattle.gen_plan.specs.Longest.{frame_most}
use Rattle.sm_node.specs.declared.faults.BytesFault.{BytesFault}
use Rattle.sm_node.specs.declared.headers.SmNumbers.{SmNumbers}
use Rattle.sm_node.specs.declared.told.NodeReply.{NodeReply}
use Rattle.sm_node.specs.declared.told.NodeReply.TheVariants.{Done, Misuse, Fault, Memory, Length}
use Rattle.sm_node.specs.Faults.{bytes_number}
use Rattle.sm_node.specs.Headers.{header_in}

-- the bytes are a header, of which this holds; or that holds, and the number of the bytes' fault is told or
-- memory was refused
abbrev pub TellsOf : List ℕ → (RunHeader → Type 0) → Type 0 → ℕ → NodeReply → Type 0
TellsOf bytes Holds Kept fault Done = (fault ≡ 0) × ((h : RunHeader) × (header_in bytes ≡ Ok h) × Holds h)
TellsOf bytes Holds Kept fault Misuse = ⊥
TellsOf bytes Holds Kept fault Fault =
    Kept × ((f : BytesFault) × (header_in bytes ≡ Err f) × (fault ≡ bytes_number f))
TellsOf bytes Holds Kept fault Memory = Kept × (fault ≡ 0)
TellsOf bytes Holds Kept fault Length = ⊥

-- the number of a version
abbrev pub version_number : Version → ℕ
version_number One = version_one
version_number (Two slot) = version_two

-- the numbers of a header, as it is made from them
abbrev pub numbers_of : RunHeader → SmNumbers
numbers_of h = record {
  version = version_number h.version;
  slot = slot_of h;
  generals = h.network.generals;
  traitors = h.network.traitors;
  diameter = h.network.diameter;
  orders = h.network.orders;
  choice = choice_number h.network.choice;
}

-- the numbers of the header are told, or they stay as they were
abbrev pub TellsNumbers : List ℕ → SmNumbers → SmNumbers → ℕ → NodeReply → Type 0
TellsNumbers bytes old new fault told = TellsOf bytes (λ h. new ≡ numbers_of h) (new ≡ old) fault told

-- the run id is told, or what was there stays
abbrev pub TellsRunId : List ℕ → List ℕ → List ℕ → ℕ → NodeReply → Type 0
TellsRunId bytes old new fault told = TellsOf bytes (λ h. new ≡ run_id_of h) (new ≡ old) fault told

-- the number of rounds is told, or 0
abbrev pub TellsRounds : List ℕ → ℕ → ℕ → NodeReply → Type 0
TellsRounds bytes told_rounds fault told =
    TellsOf bytes (λ h. told_rounds ≡ rounds h.network) (told_rounds ≡ 0) fault told

-- the most bytes of a frame are told, or 0
abbrev pub TellsMost : List ℕ → ℕ → ℕ → NodeReply → Type 0
TellsMost bytes most fault told = TellsOf bytes (λ h. most ≡ frame_most h) (most ≡ 0) fault told

-- the set is that of the generals that an edge joins to this one
abbrev pub IsSetOfNeighbours : ℕ → ℕ → RunHeader → Type 0
IsSetOfNeighbours general set h =
    (neighbours : List ℕ) × IsListOf neighbours (AreNeighbours h.network general) × (set ≡ bits_of neighbours)

-- the set of a general's neighbours is told, or the empty set
abbrev pub TellsNeighbours : List ℕ → ℕ → ℕ → ℕ → NodeReply → Type 0
TellsNeighbours bytes general set fault told =
    TellsOf bytes (IsSetOfNeighbours general set) (set ≡ 0) fault told

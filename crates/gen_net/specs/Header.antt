-- Headers: what a run is about, and the one spelling of it in bytes.
use Rattle.std.specs.Prelude.{◌≡◌, ◌≤◌, ℕ, List, [], ◌∷◌, ◌++◌, length, Result, Ok, ◌==◌, nat_le, slice_index_or}
use Rattle.std.specs.List.{flat_map, AllByRecursion}
use Rattle.sha2.specs.Sha256.{sha256}
use Rattle.gen_types.specs.declared.heights.TreeHeight.{TreeHeight}
use Rattle.gen_types.specs.Reading.{◌>>=◌, check}
use Rattle.gen_net.specs.declared.fault.HeaderFault.{HeaderFault}
use Rattle.gen_net.specs.declared.fault.HeaderFault.TheVariants.{RootCount, SlotRange}
use Rattle.gen_net.specs.declared.version.Version.{Version}
use Rattle.gen_net.specs.Network.{Network, IsNetwork}
use Rattle.gen_net.specs.NetworkSpelling.{network_bytes}
use Rattle.gen_net.specs.Version.{height_in, slot_in, greatest_slot, version_bytes}

-- a header: the version with the run's slot, a network, and for each general the root of its keys
pub record RunHeader : Type 0 where
  pub version : Version
  pub network : Network
  pub roots : List (List ℕ)

-- the height of the generals' trees of keys
abbrev pub height_of : RunHeader → TreeHeight
height_of h = height_in h.version

-- the slot: which of the runs of one tree of keys this run is
abbrev pub slot_of : RunHeader → ℕ
slot_of h = slot_in h.version

-- the root of a general's keys
abbrev pub root_of : RunHeader → ℕ → List ℕ
root_of h general = slice_index_or h.roots general []

-- the number of bytes of a root
abbrev pub root_length : ℕ
root_length = 32

-- each root has 32 bytes
abbrev pub AreRoots : List (List ℕ) → Type 0
AreRoots roots = AllByRecursion (λ root. length root ≡ root_length) roots

-- what every header keeps: its network is one, its slot is 0 to 3, and there is one root for each general
pub record IsHeader (h : RunHeader) : Type 0 where
  pub network : IsNetwork h.network
  pub slot : slot_of h ≤ greatest_slot
  pub one_each : length h.roots ≡ h.network.generals
  pub wide : AreRoots h.roots

-- the header of this version, network and roots; or the first rule that they break
abbrev pub header_with : Version → Network → List (List ℕ) → Result RunHeader HeaderFault
header_with version net roots = do
  one_each ← check (length roots == net.generals) RootCount
  slot ← check (nat_le (slot_in version) greatest_slot) SlotRange
  Ok (record { version = version; network = net; roots = roots })

-- the one spelling of a header
abbrev pub header_spelling : RunHeader → List ℕ
header_spelling h =
    version_bytes h.version ++ (network_bytes h.network ++ flat_map (λ root. root) h.roots)

-- the byte that is hashed before a header in its run id: 31 in hexadecimal
abbrev pub run_id_prefix : ℕ
run_id_prefix = 49

-- the run id, which names the run of a header: SHA-256 (FIPS 180-4) of that byte and the header's spelling
unfoldable pub run_id_of : RunHeader → List ℕ
run_id_of h = sha256 (run_id_prefix ∷ header_spelling h)

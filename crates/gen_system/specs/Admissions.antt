-- Admissions: the roots of one set of keys of all nodes of a system, each with its opening, and the one
-- spelling of it in bytes.
use Rattle.std.specs.Prelude.{ℕ, ◌≡◌, ◌<◌, ◌^◌, Bool, ◌==◌, nat_lt, List, [], ◌++◌, length, map, slice_index_or, Result, Ok}
use Rattle.std.specs.Int.{w32, to_be_bytes}
use Rattle.std.specs.List.{flat_map, list_all, AllByRecursion}
use Rattle.gen_types.specs.Reading.{◌>>=◌, check}
use Rattle.gen_net.specs.Header.{root_length}
use Rattle.gen_identity.specs.Openings.{IsOpening}
use Rattle.gen_identity.specs.OpeningBytes.{opening_spelling}
use Rattle.gen_system.specs.declared.opened_roots.OpenedRoot.{OpenedRoot}
use Rattle.gen_system.specs.declared.admission_fault.AdmissionFault.{AdmissionFault}
use Rattle.gen_system.specs.declared.admission_fault.AdmissionFault.TheVariants.{SetRange, OtherLevels}
use Rattle.gen_system.specs.Systems.{RunSystem, IsSystem, system_spelling}

-- a system, the number of a set, and for each node in order the root of that set with its opening
pub record SetAdmission : Type 0 where
  pub system : RunSystem
  pub set : ℕ
  pub opened : List OpenedRoot

-- a root of 32 bytes with an opening of this many siblings
pub record IsOpenedRoot (levels : ℕ) (o : OpenedRoot) : Type 0 where
  pub root : length o.root ≡ root_length
  pub opening : IsOpening o.opening
  pub one_each : length o.opening ≡ levels

-- what every admission keeps: the set is one of the system's, there is one root for each node, and each
-- opening has one sibling for each level
pub record IsAdmission (a : SetAdmission) : Type 0 where
  pub system : IsSystem a.system
  pub set : a.set < 2 ^ a.system.levels
  pub one_each : length a.opened ≡ a.system.header.network.generals
  pub opened : AllByRecursion (IsOpenedRoot a.system.levels) a.opened

-- the roots of the set, node by node, and the openings
abbrev pub roots_of : SetAdmission → List (List ℕ)
roots_of a = map (λ o. o.root) a.opened

abbrev pub openings_of : SetAdmission → List (List (List ℕ))
openings_of a = map (λ o. o.opening) a.opened

-- the root of a node's set, and its opening
abbrev pub root_in : SetAdmission → ℕ → List ℕ
root_in a node = slice_index_or (roots_of a) node []

abbrev pub opening_in : SetAdmission → ℕ → List (List ℕ)
opening_in a node = slice_index_or (openings_of a) node []

-- each opening has this many siblings
abbrev pub have_levels : ℕ → List OpenedRoot → Bool
have_levels levels opened = list_all (λ o. length o.opening == levels) opened

-- the admission of these parts, which have one root for each node; or the first rule that they break
unfoldable pub admission_with : RunSystem → ℕ → List OpenedRoot → Result SetAdmission AdmissionFault
admission_with system set opened = do
  below ← check (nat_lt set (2 ^ system.levels)) SetRange
  levels ← check (have_levels system.levels opened) OtherLevels
  Ok (record { system = system; set = set; opened = opened })

-- ---- bytes

-- the first four bytes of an admission as a number, big-endian: `SMA1`
abbrev pub admission_mark : ℕ
admission_mark = 1397571889

-- a root, and its opening
abbrev pub opened_spelling : OpenedRoot → List ℕ
opened_spelling o = o.root ++ opening_spelling o.opening

-- the one spelling of an admission: the mark, the system, the number of the set in four bytes, and for each
-- node its root and the opening
abbrev pub admission_spelling : SetAdmission → List ℕ
admission_spelling a =
    to_be_bytes w32 admission_mark
    ++ (system_spelling a.system
    ++ (to_be_bytes w32 a.set ++ flat_map opened_spelling a.opened))

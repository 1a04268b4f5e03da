-- The admission that a system and the files of roots of its nodes give.
use Rattle.std.specs.Prelude.{ℕ, ◌+◌, ◌^◌, ◌==◌, ◌&&◌, Bool, true, false, nat_lt, List, [], ◌∷◌, length, slice_index_or, Result, Ok}
use Rattle.std.specs.Bool.{nat_eq}
use Rattle.std.specs.Cmp.Lexicographic.{pointwise}
use Rattle.gen_types.specs.declared.heights.TreeHeight.{TreeHeight}
use Rattle.gen_types.specs.declared.heights.TreeHeight.TheVariants.{Four, Six}
use Rattle.gen_types.specs.Reading.{◌>>=◌, check, map_fault}
use Rattle.gen_net.specs.declared.version.Version.{Version}
use Rattle.gen_net.specs.declared.version.Version.TheVariants.{One, Two}
use Rattle.gen_net.specs.Header.{root_of}
use Rattle.gen_identity.specs.Openings.{siblings_of}
use Rattle.gen_identity.specs.Sets.{identity_over}
use Rattle.gen_enroll.specs.RootFiles.{RootFile}
use Rattle.gen_system.specs.declared.opened_roots.OpenedRoot.{OpenedRoot}
use Rattle.gen_system.specs.Admissions.{SetAdmission, admission_spelling, admission_with}
use Rattle.gen_system.specs.Runs.{set_of_run}
use Rattle.gen_system.specs.SystemReading.{whole_system}
use Rattle.gen_system.specs.Systems.{RunSystem, system_id_of}
use Rattle.gen_enrolling.specs.declared.enroll_fault.EnrollFault.{EnrollFault}
use Rattle.gen_enrolling.specs.declared.enroll_fault.EnrollFault.TheVariants.{System, Admission, OtherSet, FileCount, OtherIdentity}
use Rattle.gen_enrolling.specs.declared.gathering.NodeRoots.{NodeRoots}
use Rattle.gen_enrolling.specs.Enrolling.{roots_read}

-- the system that the bytes are, or their first fault
abbrev pub system_read : List ℕ → Result RunSystem EnrollFault
system_read bytes = map_fault System (whole_system bytes)

-- whether trees of this height are those of runs of the version
abbrev pub is_high : Version → TreeHeight → Bool
is_high One Four = true
is_high One Six = false
is_high (Two slot) Four = false
is_high (Two slot) Six = true

-- whether a file of roots is that of a node's identity in a system
abbrev pub file_is_own : RunSystem → ℕ → RootFile → Bool
file_is_own s node file =
    is_high s.header.version file.height
    && (file.levels == s.levels
    && pointwise nat_eq (identity_over file.roots file.levels).top (root_of s.header node))

-- the root of a set of a node, with its opening, from the node's file; or the first fault
unfoldable pub opened_from : RunSystem → ℕ → ℕ → NodeRoots → Result OpenedRoot EnrollFault
opened_from s set node file = do
  placed ← check (file.node == node) FileCount
  roots ← roots_read file.bytes.items
  own ← check (file_is_own s node roots) (OtherIdentity node)
  Ok (record { root = slice_index_or roots.roots set []; opening = siblings_of roots.roots roots.levels set })

-- the same of all nodes from this one on, from their files
unfoldable pub opened_all : RunSystem → ℕ → ℕ → List NodeRoots → Result (List OpenedRoot) EnrollFault
opened_all s set node [] = Ok []
opened_all s set node (file ∷ files) = do
  opened ← opened_from s set node file
  others ← opened_all s set (node + 1) files
  Ok (opened ∷ others)

-- the same of all nodes, if there is one file for each
unfoldable pub opened_each : RunSystem → ℕ → List NodeRoots → Result (List OpenedRoot) EnrollFault
opened_each s set files = do
  each ← check (length files == s.header.network.generals) FileCount
  opened_all s set 0 files

-- the set of a run, if the system has the run
unfoldable pub set_asked : RunSystem → ℕ → Result ℕ EnrollFault
set_asked s run = do
  known ← check (nat_lt (set_of_run s.header.version run) (2 ^ s.levels)) OtherSet
  Ok (set_of_run s.header.version run)

-- the admission of these parts, or the first rule that they break
abbrev pub admission_made : RunSystem → ℕ → List OpenedRoot → Result SetAdmission EnrollFault
admission_made s set opened = map_fault Admission (admission_with s set opened)

-- the bytes of the admission of the set of a run, and the id of its system; or the first fault
unfoldable pub admission_given : ℕ → List ℕ → List NodeRoots → Result (List ℕ × List ℕ) EnrollFault
admission_given run bytes files = do
  system ← system_read bytes
  set ← set_asked system run
  opened ← opened_each system set files
  admission ← admission_made system set opened
  Ok (admission_spelling admission, system_id_of admission.system)

-- Reading an admission from left to right, with the first fault that is met.
use Rattle.std.specs.Prelude.{ℕ, ◌^◌, ◌==◌, nat_lt, List, length, Result, Ok}
use Rattle.std.specs.Int.{w32}
use Rattle.gen_types.specs.Reading.{◌>>=◌, check, map_fault}
use Rattle.gen_types.specs.Bytes.{byte_at, bytes_at, number_at, many_at}
use Rattle.gen_net.specs.Header.{root_length}
use Rattle.gen_identity.specs.declared.opening_fault.OpeningFault.{OpeningFault}
use Rattle.gen_identity.specs.declared.opening_fault.OpeningFault.TheVariants as openings
use Rattle.gen_identity.specs.OpeningBytes.{opening_at}
use Rattle.gen_system.specs.declared.opened_roots.OpenedRoot.{OpenedRoot}
use Rattle.gen_system.specs.declared.system_fault.SystemFault.{SystemFault}
use Rattle.gen_system.specs.declared.system_fault.SystemFault.TheVariants as systems
use Rattle.gen_system.specs.declared.admission_fault.AdmissionFault.{AdmissionFault}
use Rattle.gen_system.specs.declared.admission_fault.AdmissionFault.TheVariants as faults
use Rattle.gen_system.specs.Admissions.{SetAdmission, admission_mark}
use Rattle.gen_system.specs.SystemReading.{system_at}
use Rattle.gen_system.specs.Systems.{RunSystem}

-- a system's fault as a fault of the admission: if the system ends too early, so does the admission
abbrev pub system_fault : SystemFault → AdmissionFault
system_fault systems.Truncated = faults.Truncated
system_fault rule = faults.BadSystem rule

-- an opening's fault as a fault of the admission
abbrev pub opening_fault : OpeningFault → AdmissionFault
opening_fault openings.Truncated = faults.Truncated
opening_fault openings.TooManyLevels = faults.OtherLevels

-- reads an opening that must have this many siblings
unfoldable pub opening_with : ℕ → List ℕ → Result (List (List ℕ) × List ℕ) AdmissionFault
opening_with levels bytes = do
  count ← byte_at faults.Truncated bytes
  same ← check (count.0 == levels) faults.OtherLevels
  map_fault opening_fault (opening_at bytes)

-- reads a root and its opening
unfoldable pub opened_at : ℕ → List ℕ → Result (OpenedRoot × List ℕ) AdmissionFault
opened_at levels bytes = do
  root ← bytes_at faults.Truncated root_length bytes
  opening ← opening_with levels root.1
  Ok (record { root = root.0; opening = opening.0 }, opening.1)

-- reads a mark and a system
unfoldable pub marked_system_at : List ℕ → Result (RunSystem × List ℕ) AdmissionFault
marked_system_at bytes = do
  mark ← number_at faults.Truncated w32 bytes
  known ← check (mark.0 == admission_mark) faults.UnknownMark
  map_fault system_fault (system_at mark.1)

-- reads the number of a set, which is below 2 ^ levels
unfoldable pub set_at : ℕ → List ℕ → Result (ℕ × List ℕ) AdmissionFault
set_at levels bytes = do
  set ← number_at faults.Truncated w32 bytes
  below ← check (nat_lt set.0 (2 ^ levels)) faults.SetRange
  Ok set

-- reads an admission: the admission and the bytes after it, or the first fault
unfoldable pub admission_at : List ℕ → Result (SetAdmission × List ℕ) AdmissionFault
admission_at bytes = do
  system ← marked_system_at bytes
  set ← set_at system.0.levels system.1
  opened ← many_at (opened_at system.0.levels) system.0.header.network.generals set.1
  Ok (record { system = system.0; set = set.0; opened = opened.0 }, opened.1)

-- the admission that all the bytes are, or the first fault
unfoldable pub whole_admission : List ℕ → Result SetAdmission AdmissionFault
whole_admission bytes = do
  admission ← admission_at bytes
  end ← check (length admission.1 == 0) faults.LeftOver
  Ok admission.0

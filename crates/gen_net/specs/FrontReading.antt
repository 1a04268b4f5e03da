-- Reading a mark and a header from left to right, with the first fault that is met.
use Rattle.std.specs.Prelude.{ℕ, ◌==◌, if◌then◌else◌, List, Result, Ok, Err}
use Rattle.std.specs.Int.{w32}
use Rattle.gen_types.specs.Reading.{◌>>=◌, check, map_fault}
use Rattle.gen_types.specs.Bytes.{byte_at, number_at}
use Rattle.gen_net.specs.declared.fault.HeaderFault.{HeaderFault}
use Rattle.gen_net.specs.declared.fault.HeaderFault.TheVariants as rules
use Rattle.gen_net.specs.declared.marks.Marks.{Marks}
use Rattle.gen_net.specs.declared.marks.FrontFault.{FrontFault}
use Rattle.gen_net.specs.declared.marks.FrontFault.TheVariants as faults
use Rattle.gen_net.specs.Header.{RunHeader}
use Rattle.gen_net.specs.HeaderReading.{header_at}
use Rattle.gen_net.specs.Version.{version_one, version_two}

-- the number of the version that a mark says, and the bytes after the mark; or UnknownMark
abbrev pub version_behind : Marks → ℕ → List ℕ → Result (ℕ × List ℕ) FrontFault
version_behind marks mark rest =
    if mark == marks.one then Ok (version_one, rest)
    else (if mark == marks.two then Ok (version_two, rest) else Err faults.UnknownMark)

-- reads a mark: the number of the version that it says and the bytes after it, or the first fault
unfoldable pub mark_at : Marks → List ℕ → Result (ℕ × List ℕ) FrontFault
mark_at marks bytes = do
  mark ← number_at faults.Truncated w32 bytes
  version_behind marks mark.0 mark.1

-- a header's fault as a fault of the front: if the header ends too early, so does the front
abbrev pub header_fault : HeaderFault → FrontFault
header_fault rules.Truncated = faults.Truncated
header_fault fault = faults.BadHeader fault

-- reads a header whose first byte must be the number of this version
unfoldable pub header_behind : ℕ → List ℕ → Result (RunHeader × List ℕ) FrontFault
header_behind version bytes = do
  number ← byte_at faults.Truncated bytes
  known ← check (number.0 == version) (faults.BadHeader rules.UnknownVersion)
  map_fault header_fault (header_at bytes)

-- reads a front: a mark, and a header of the version that the mark says
unfoldable pub front_at : Marks → List ℕ → Result (RunHeader × List ℕ) FrontFault
front_at marks bytes = do
  mark ← mark_at marks bytes
  header_behind mark.0 mark.1

-- Reading a system from left to right, with the first fault that is met.
use Rattle.std.specs.Prelude.{ℕ, ◌==◌, if◌then◌else◌, nat_le, List, length, Result, Ok, Err}
use Rattle.std.specs.Int.{w32}
use Rattle.gen_types.specs.Reading.{◌>>=◌, check, map_fault}
use Rattle.gen_types.specs.Bytes.{byte_at, bytes_at, number_at}
use Rattle.gen_net.specs.declared.fault.HeaderFault.{HeaderFault}
use Rattle.gen_net.specs.declared.fault.HeaderFault.TheVariants as rules
use Rattle.gen_net.specs.Header.{RunHeader}
use Rattle.gen_net.specs.HeaderReading.{header_at}
use Rattle.gen_identity.specs.Openings.{most_levels}
use Rattle.gen_system.specs.declared.proposers.Proposer.{Proposer}
use Rattle.gen_system.specs.declared.proposers.Proposer.TheVariants.{First, Turns}
use Rattle.gen_system.specs.declared.system_fault.SystemFault.{SystemFault}
use Rattle.gen_system.specs.declared.system_fault.SystemFault.TheVariants as faults
use Rattle.gen_system.specs.Systems.{RunSystem, context_length, fit_header, system_mark}

-- a header's fault as a fault of the system: if the header ends too early, so does the system
abbrev pub header_fault : HeaderFault → SystemFault
header_fault rules.Truncated = faults.Truncated
header_fault rule = faults.BadHeader rule

-- reads a header
abbrev pub any_header_at : List ℕ → Result (RunHeader × List ℕ) SystemFault
any_header_at bytes = map_fault header_fault (header_at bytes)

-- reads a mark and a header that can be a system's: the header and the bytes after it, or the first fault
unfoldable pub marked_header_at : List ℕ → Result (RunHeader × List ℕ) SystemFault
marked_header_at bytes = do
  mark ← number_at faults.Truncated w32 bytes
  known ← check (mark.0 == system_mark) faults.UnknownMark
  header ← any_header_at mark.1
  fit ← fit_header header.0
  Ok header

-- the proposer of a number, or UnknownProposer
abbrev pub proposer_numbered : ℕ → Result Proposer SystemFault
proposer_numbered number =
    if number == 0 then Ok First
    else (if number == 1 then Ok Turns else Err faults.UnknownProposer)

-- reads a proposer, one byte
unfoldable pub proposer_at : List ℕ → Result (Proposer × List ℕ) SystemFault
proposer_at bytes = do
  number ← byte_at faults.Truncated bytes
  proposer ← proposer_numbered number.0
  Ok (proposer, number.1)

-- reads the number of levels, one byte
unfoldable pub levels_at : List ℕ → Result (ℕ × List ℕ) SystemFault
levels_at bytes = do
  levels ← byte_at faults.Truncated bytes
  few ← check (nat_le levels.0 most_levels) faults.TooManyLevels
  Ok levels

-- reads a system: the system and the bytes after it, or the first fault
unfoldable pub system_at : List ℕ → Result (RunSystem × List ℕ) SystemFault
system_at bytes = do
  header ← marked_header_at bytes
  proposer ← proposer_at header.1
  levels ← levels_at proposer.1
  context ← bytes_at faults.Truncated context_length levels.1
  Ok (
    record {
      header = header.0;
      proposer = proposer.0;
      levels = levels.0;
      context = context.0;
    },
    context.1,
  )

-- the system that all the bytes are, or the first fault
unfoldable pub whole_system : List ℕ → Result RunSystem SystemFault
whole_system bytes = do
  system ← system_at bytes
  end ← check (length system.1 == 0) faults.LeftOver
  Ok system.0

-- Reading a file of roots from left to right, with the first fault that is met.
use Rattle.std.specs.Prelude.{ℕ, ◌^◌, ◌==◌, if◌then◌else◌, List, length, Result, Ok, Err, nat_le}
use Rattle.std.specs.Int.{w32}
use Rattle.gen_types.specs.Reading.{◌>>=◌, check}
use Rattle.gen_types.specs.Bytes.{byte_at, bytes_at, number_at, many_at}
use Rattle.gen_types.specs.declared.heights.TreeHeight.{TreeHeight}
use Rattle.gen_types.specs.declared.heights.TreeHeight.TheVariants.{Four, Six}
use Rattle.gen_identity.specs.Openings.{most_levels}
use Rattle.gen_enroll.specs.declared.heads.RootsHead.{RootsHead}
use Rattle.gen_enroll.specs.declared.roots_fault.RootsFault.{RootsFault}
use Rattle.gen_enroll.specs.declared.roots_fault.RootsFault.TheVariants as faults
use Rattle.gen_enroll.specs.RootFiles.{RootFile, root_length, root_mark}

-- the height of the trees that a mark says
abbrev pub height_of : ℕ → Result TreeHeight RootsFault
height_of mark =
    if mark == root_mark Four then Ok Four
    else (if mark == root_mark Six then Ok Six else Err faults.UnknownMark)

-- the head in front of the bytes, and the bytes after it
unfoldable pub head_at : List ℕ → Result (RootsHead × List ℕ) RootsFault
head_at bytes = do
  mark ← number_at faults.Truncated w32 bytes
  height ← height_of mark.0
  levels ← byte_at faults.Truncated mark.1
  few ← check (nat_le levels.0 most_levels) faults.TooManyLevels
  Ok (record { height = height; levels = levels.0 }, levels.1)

-- one root, and the bytes after it
abbrev pub root_at : List ℕ → Result (List ℕ × List ℕ) RootsFault
root_at bytes = bytes_at faults.Truncated root_length bytes

-- the file of roots in front of the bytes, and the bytes after it
unfoldable pub file_at : List ℕ → Result (RootFile × List ℕ) RootsFault
file_at bytes = do
  head ← head_at bytes
  roots ← many_at root_at (2 ^ head.0.levels) head.1
  Ok (record { height = head.0.height; levels = head.0.levels; roots = roots.0 }, roots.1)

-- the file of roots that all the bytes are
unfoldable pub whole_file : List ℕ → Result RootFile RootsFault
whole_file bytes = do
  file ← file_at bytes
  all ← check (length file.1 == 0) faults.LeftOver
  Ok file.0

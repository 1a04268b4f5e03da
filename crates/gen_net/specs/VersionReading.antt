-- Reading a version. An unknown number is met first, then too few bytes.
use Rattle.std.specs.Prelude.{ℕ, ◌==◌, List, Result, Ok, Err, if◌then◌else◌}
use Rattle.gen_types.specs.Reading.{◌>>=◌}
use Rattle.gen_types.specs.Bytes.{byte_at}
use Rattle.gen_net.specs.declared.fault.HeaderFault.{HeaderFault}
use Rattle.gen_net.specs.declared.fault.HeaderFault.TheVariants.{Truncated, UnknownVersion}
use Rattle.gen_net.specs.declared.version.Version.{Version}
use Rattle.gen_net.specs.declared.version.Version.TheVariants.{One, Two}
use Rattle.gen_net.specs.Version.{version_one, version_two}

-- reads the slot of version 2: the version with it and the bytes after it, or Truncated
unfoldable pub slot_at : List ℕ → Result (Version × List ℕ) HeaderFault
slot_at bytes = do
  slot ← byte_at Truncated bytes
  Ok (Two slot.0, slot.1)

-- reads what follows the number of a version: the version and the bytes after it, or the first fault
abbrev pub version_behind : ℕ → List ℕ → Result (Version × List ℕ) HeaderFault
version_behind number rest =
    if number == version_one then Ok (One, rest)
    else (if number == version_two then slot_at rest else Err UnknownVersion)

-- reads a version: the version and the bytes after it, or the first fault
unfoldable pub version_at : List ℕ → Result (Version × List ℕ) HeaderFault
version_at bytes = do
  number ← byte_at Truncated bytes
  version_behind number.0 number.1

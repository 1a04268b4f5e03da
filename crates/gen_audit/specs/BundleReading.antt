-- Reading a bundle from left to right, with the first fault that is met.
use Rattle.std.specs.Prelude.{ℕ, ◌==◌, List, length, Result, Ok, nat_lt, nat_le}
use Rattle.std.specs.Int.{w32}
use Rattle.gen_types.specs.Reading.{◌>>=◌, check}
use Rattle.gen_types.specs.Bytes.{byte_at, bytes_at, number_at, many_at}
use Rattle.gen_log.specs.Writing.{LogBytes}
use Rattle.gen_audit.specs.declared.bundle_fault.BundleFault.{BundleFault}
use Rattle.gen_audit.specs.declared.bundle_fault.BundleFault.TheVariants as faults
use Rattle.gen_audit.specs.Behind.{many_behind}
use Rattle.gen_audit.specs.Bundle.{Bundle}
use Rattle.gen_audit.specs.BundleParts.{most_walks, most_exhibits, ends_of}
use Rattle.gen_audit.specs.BundleMaking.{is_walk_length, no_ends, may_follow, shown_general}
use Rattle.gen_audit.specs.BundleFields.{front_at, faulty_at}

-- a general below n of a walk
unfoldable pub general_at : ℕ → List ℕ → Result (ℕ × List ℕ) BundleFault
general_at n bytes = do
  number ← byte_at faults.Truncated bytes
  known ← check (nat_lt number.0 n) faults.BadWalk
  Ok number

-- a walk whose ends come after those of the walk before, and all walks with their number
unfoldable pub walk_at : ℕ → ℕ × ℕ → List ℕ → Result (List ℕ × List ℕ) BundleFault
walk_at n before bytes = do
  count ← byte_at faults.Truncated bytes
  size ← check (is_walk_length count.0) faults.WalkCount
  walk ← many_at (general_at n) count.0 count.1
  ordered ← check (may_follow before walk.0) faults.BadWalk
  Ok walk

unfoldable pub walks_at : ℕ → List ℕ → Result (List (List ℕ) × List ℕ) BundleFault
walks_at n bytes = do
  count ← byte_at faults.Truncated bytes
  few ← check (nat_le count.0 most_walks) faults.WalkCount
  many_behind (walk_at n) ends_of no_ends count.0 count.1

-- the general of an exhibit, not less than that of the exhibit before
unfoldable pub owner_at : ℕ → ℕ → List ℕ → Result (ℕ × List ℕ) BundleFault
owner_at n before bytes = do
  general ← byte_at faults.Truncated bytes
  known ← check (nat_lt general.0 n) faults.BadExhibit
  ordered ← check (nat_le before general.0) faults.OutOfOrder
  Ok general

-- an exhibit, and all exhibits with their number
unfoldable pub exhibit_at : ℕ → ℕ → List ℕ → Result (LogBytes × List ℕ) BundleFault
exhibit_at n before bytes = do
  general ← owner_at n before bytes
  size ← number_at faults.Truncated w32 general.1
  log ← bytes_at faults.Truncated size.0 size.1
  Ok (record { general = general.0; bytes = log.0 }, log.1)

unfoldable pub exhibits_at : ℕ → List ℕ → Result (List LogBytes × List ℕ) BundleFault
exhibits_at n bytes = do
  count ← byte_at faults.Truncated bytes
  few ← check (nat_le count.0 most_exhibits) faults.BadExhibit
  many_behind (exhibit_at n) shown_general 0 count.0 count.1

-- a bundle, and the bytes after it
unfoldable pub bundle_at : List ℕ → Result (Bundle × List ℕ) BundleFault
bundle_at bytes = do
  header ← front_at bytes
  faulty ← faulty_at header.0.network.generals header.1
  walks ← walks_at header.0.network.generals faulty.1
  exhibits ← exhibits_at header.0.network.generals walks.1
  Ok (record { header = header.0; faulty = faulty.0; walks = walks.0; exhibits = exhibits.0 }, exhibits.1)

-- the bundle, with no bytes left over
unfoldable pub whole_bundle : List ℕ → Result Bundle BundleFault
whole_bundle bytes = do
  bundle ← bundle_at bytes
  all ← check (length bundle.1 == 0) faults.LeftOver
  Ok bundle.0

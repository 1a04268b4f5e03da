-- Reading the mark, the header and the set at the beginning of a bundle, from left to right, with the first
-- fault that is met.
use Rattle.std.specs.Prelude.{ℕ, List, Result, Ok}
use Rattle.std.specs.Int.{w16}
use Rattle.gen_types.specs.Bits.{members_of}
use Rattle.gen_types.specs.Reading.{◌>>=◌, check, map_fault}
use Rattle.gen_types.specs.Bytes.{number_at}
use Rattle.gen_net.specs.declared.marks.FrontFault.{FrontFault}
use Rattle.gen_net.specs.declared.marks.FrontFault.TheVariants as fronts
use Rattle.gen_net.specs.FrontReading as marked
use Rattle.gen_net.specs.Header.{RunHeader}
use Rattle.gen_audit.specs.declared.bundle_fault.BundleFault.{BundleFault}
use Rattle.gen_audit.specs.declared.bundle_fault.BundleFault.TheVariants as faults
use Rattle.gen_audit.specs.BundleMaking.{are_below}
use Rattle.gen_audit.specs.BundleSpelling.{bundle_marks}

-- the fault of a bundle for a fault of the mark or the header
abbrev pub front_fault : FrontFault → BundleFault
front_fault fronts.Truncated = faults.Truncated
front_fault fronts.UnknownMark = faults.UnknownMark
front_fault (fronts.BadHeader rule) = faults.BadHeader rule

-- the mark, and a header of the version that it says
abbrev pub front_at : List ℕ → Result (RunHeader × List ℕ) BundleFault
front_at bytes = map_fault front_fault (marked.front_at bundle_marks bytes)

-- a set of generals below n, as a number of two bytes
unfoldable pub faulty_at : ℕ → List ℕ → Result (List ℕ × List ℕ) BundleFault
faulty_at n bytes = do
  bits ← number_at faults.Truncated w16 bytes
  known ← check (are_below n (members_of bits.0)) faults.FaultyRange
  Ok (members_of bits.0, bits.1)

-- The numbers of the rules that a file of roots can break.
use Rattle.std.specs.Prelude.{ℕ}
use Rattle.gen_enroll.specs.declared.roots_fault.RootsFault.{RootsFault}
use Rattle.gen_enroll.specs.declared.roots_fault.RootsFault.TheVariants as faults

-- the number of the rule that bytes break
abbrev pub roots_fault_number : RootsFault → ℕ
roots_fault_number faults.Truncated = 1
roots_fault_number faults.UnknownMark = 2
roots_fault_number faults.TooManyLevels = 3
roots_fault_number faults.LeftOver = 4

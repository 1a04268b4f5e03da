-- The number of each rule that a frame can break.
use Rattle.std.specs.Prelude.{ℕ}
use Rattle.gen_node.specs.declared.frame_fault.FrameFault.{FrameFault}
use Rattle.gen_node.specs.declared.frame_fault.FrameFault.TheVariants as faults

-- the number of a fault, as its text `F1` to `F8` has it
abbrev pub fault_number : FrameFault → ℕ
fault_number faults.NotAwaited = 1
fault_number faults.Twice = 2
fault_number faults.Truncated = 3
fault_number faults.UnknownMark = 4
fault_number faults.LeftOver = 5
fault_number faults.OtherRun = 6
fault_number faults.OtherRound = 7
fault_number faults.OtherEnds = 8

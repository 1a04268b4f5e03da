-- The number of each rule that a header can break.
use Rattle.std.specs.Prelude.{ℕ}
use Rattle.gen_net.specs.declared.fault.HeaderFault.{HeaderFault}
use Rattle.gen_net.specs.declared.fault.HeaderFault.TheVariants as faults

-- the number of a fault, as its text `H1` to `H11` has it
abbrev pub header_fault_number : HeaderFault → ℕ
header_fault_number faults.GeneralCount = 1
header_fault_number faults.BadEdge = 2
header_fault_number faults.TraitorCount = 3
header_fault_number faults.DiameterRange = 4
header_fault_number faults.RoundCount = 5
header_fault_number faults.OrderCount = 6
header_fault_number faults.UnknownChoice = 7
header_fault_number faults.RootCount = 8
header_fault_number faults.Truncated = 9
header_fault_number faults.UnknownVersion = 10
header_fault_number faults.SlotRange = 11

-- The number of each fault, the same in all calls.
use Rattle.std.specs.Prelude.{ℕ, ◌+◌}
use Rattle.gen_net.specs.FaultNumber.{header_fault_number}
use Rattle.gen_audit.specs.declared.bundle_fault.BundleFault.{BundleFault}
use Rattle.gen_audit.specs.declared.bundle_fault.BundleFault.TheVariants as bundles
use Rattle.gen_node.specs.declared.frame_fault.FrameFault.{FrameFault}
use Rattle.gen_node.specs.FaultNumber.{fault_number}
use Rattle.gen_receipt.specs.declared.receipt_fault.ReceiptFault.{ReceiptFault}
use Rattle.gen_receipt.specs.declared.receipt_fault.ReceiptFault.TheVariants as receipts
use Rattle.gen_system.specs.declared.admission_fault.AdmissionFault.{AdmissionFault}
use Rattle.gen_system.specs.declared.admission_fault.AdmissionFault.TheVariants as admissions
use Rattle.gen_system.specs.declared.system_fault.SystemFault.{SystemFault}
use Rattle.gen_system.specs.declared.system_fault.SystemFault.TheVariants as systems
use Rattle.sm_node.specs.declared.faults.AdmitFault.{AdmitFault}
use Rattle.sm_node.specs.declared.faults.AdmitFault.TheVariants as admitting
use Rattle.sm_node.specs.declared.faults.BytesFault.{BytesFault}
use Rattle.sm_node.specs.declared.faults.BytesFault.TheVariants.{BadHeader, LeftOver}
use Rattle.sm_node.specs.declared.faults.MakingFault.{MakingFault}
use Rattle.sm_node.specs.declared.faults.MakingFault.TheVariants.{Broken, EqualRoots}
use Rattle.sm_node.specs.declared.faults.SmPair.{SmPair}
use Rattle.sm_node.specs.declared.faults.StartFault.{StartFault}
use Rattle.sm_node.specs.declared.faults.StartFault.TheVariants.{Header, NoGeneral, OtherRoot, OtherVersion, UsedSlot}
use Rattle.sm_node.specs.declared.faults.GatherFault.{GatherFault}
use Rattle.sm_node.specs.declared.faults.GatherFault.TheVariants as gathering

-- the number of a fault of a header's bytes: that of the header's fault, or 12 for bytes that are left over
abbrev pub bytes_number : BytesFault → ℕ
bytes_number (BadHeader f) = header_fault_number f
bytes_number LeftOver = 12

-- the number of a fault of a header's numbers, edges and roots: that of the header's fault, or 15 for two
-- generals with the same root
abbrev pub making_number : MakingFault → ℕ
making_number (Broken f) = header_fault_number f
making_number (EqualRoots a b) = 15

-- two generals, as they are told; in place of two where there are none; and the two that have the same root
abbrev pub pair_of : ℕ → ℕ → SmPair
pair_of a b = record { first = a; second = b }

abbrev pub no_pair : SmPair
no_pair = pair_of 0 0

abbrev pub making_pair : MakingFault → SmPair
making_pair (Broken f) = no_pair
making_pair (EqualRoots a b) = pair_of a b

-- the number of a fault of a start: that of the header's bytes, 13, 14, 16 or 17
abbrev pub start_number : StartFault → ℕ
start_number (Header f) = bytes_number f
start_number NoGeneral = 13
start_number OtherRoot = 14
start_number OtherVersion = 16
start_number UsedSlot = 17

-- the number of a frame's fault: 21 to 28, which is 20 more than its text has
abbrev pub frame_number : FrameFault → ℕ
frame_number f = 20 + fault_number f

-- the number of a bundle's fault: 41 to 49, which is 40 more than its text has; 50 for a log that no bundle
-- can hold; or the number of its header's fault
abbrev pub bundle_number : BundleFault → ℕ
bundle_number bundles.Truncated = 41
bundle_number bundles.UnknownMark = 42
bundle_number (bundles.BadHeader f) = header_fault_number f
bundle_number bundles.FaultyRange = 44
bundle_number bundles.WalkCount = 45
bundle_number bundles.BadWalk = 46
bundle_number bundles.BadExhibit = 47
bundle_number bundles.LeftOver = 48
bundle_number bundles.OutOfOrder = 49
bundle_number bundles.LongLog = 50

-- the number of a fault of gathering: 31 if no walk joins two generals, 32 if none is short enough; or the
-- number of the fault of the header's bytes or of the bundle
abbrev pub gather_number : GatherFault → ℕ
gather_number (gathering.Header f) = bytes_number f
gather_number (gathering.NoWalk pair) = 31
gather_number (gathering.LongWalk pair) = 32
gather_number (gathering.Bundle f) = bundle_number f

-- the two generals that no walk joins, or none that is short enough
abbrev pub gather_pair : GatherFault → SmPair
gather_pair (gathering.Header f) = no_pair
gather_pair (gathering.NoWalk pair) = pair
gather_pair (gathering.LongWalk pair) = pair
gather_pair (gathering.Bundle f) = no_pair

-- the number of a fault of receipts: 61 to 65, which is 60 more than its text has; or the number of its
-- header's fault
abbrev pub receipt_number : ReceiptFault → ℕ
receipt_number receipts.Truncated = 61
receipt_number receipts.UnknownMark = 62
receipt_number (receipts.BadHeader f) = header_fault_number f
receipt_number receipts.OutOfRange = 64
receipt_number receipts.OtherRun = 65

-- the number of a fault of an admission's system: that of its header's fault, or 73
abbrev pub system_number : SystemFault → ℕ
system_number (systems.BadHeader f) = header_fault_number f
system_number rule = 73

-- the number of a fault of an admission: 71 to 76, which is 70 more than its text has; or the number of its
-- header's fault
abbrev pub admission_number : AdmissionFault → ℕ
admission_number admissions.Truncated = 71
admission_number admissions.UnknownMark = 72
admission_number (admissions.BadSystem f) = system_number f
admission_number admissions.SetRange = 74
admission_number admissions.OtherLevels = 75
admission_number admissions.LeftOver = 76

-- the number of a fault of an admission for a run: that of the admission's bytes, 77 if it does not hold, or
-- 78 if the run is of another set
abbrev pub admit_number : AdmitFault → ℕ
admit_number (admitting.Bytes f) = admission_number f
admit_number admitting.Fails = 77
admit_number admitting.OtherSet = 78

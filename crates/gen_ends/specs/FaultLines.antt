-- The line of the fault of a job.
use Rattle.std.specs.Prelude.{ℕ, List, ◌++◌, codes}
use Rattle.std.specs.Fmt.{decimal}
use Rattle.gen_script.specs.declared.fault.ScriptFault.{ScriptFault}
use Rattle.gen_script.specs.declared.fault.ScriptFault.TheVariants as scripts
use Rattle.gen_text.specs.declared.fault.LineFault.{LineFault}
use Rattle.gen_text.specs.declared.fault.LineFault.TheVariants as lines
use Rattle.gen_text.specs.declared.fault.ScenarioFault.{ScenarioFault}
use Rattle.gen_file.specs.FaultText.{header_fault_name, log_fault_name}
use Rattle.gen_file.specs.FileFaultText.{evidence_fault_name}
use Rattle.gen_campaign.specs.FaultText.{campaign_fault_name}
use Rattle.gen_receipt.specs.declared.receipt_fault.ReceiptFault.{ReceiptFault}
use Rattle.gen_receipt.specs.declared.receipt_fault.ReceiptFault.TheVariants as receipts
use Rattle.gen_ends.specs.declared.ends.JobFault.{JobFault}
use Rattle.gen_ends.specs.declared.ends.JobFault.TheVariants as faults

-- the name of the fault of a script's line
abbrev pub script_fault_name : ScriptFault → List ℕ
script_fault_name scripts.Shape = codes "S1"
script_fault_name scripts.Number = codes "S2"
script_fault_name scripts.BadRound = codes "S3"
script_fault_name scripts.NoNeighbour = codes "S4"
script_fault_name scripts.BadOrder = codes "S5"
script_fault_name scripts.BadPath = codes "S6"

-- the name of the fault of a line of a text, and, if that is a header's fault or a script's, the name of this
-- one behind it
abbrev pub line_fault_name : LineFault → List ℕ
line_fault_name lines.Unfinished = codes "P1"
line_fault_name lines.Shape = codes "P2"
line_fault_name lines.Number = codes "P3"
line_fault_name (lines.Network fault) = codes "P4 " ++ header_fault_name fault
line_fault_name lines.UnknownOrder = codes "P5"
line_fault_name lines.BadSeed = codes "P6"
line_fault_name lines.Unseeded = codes "P7"
line_fault_name lines.BadTraitor = codes "P8"
line_fault_name (lines.Script fault) = codes "P9 " ++ script_fault_name fault
line_fault_name lines.Extra = codes "P10"
line_fault_name lines.TooLong = codes "P11"
line_fault_name lines.Foreign = codes "P12"
line_fault_name lines.SlotRange = codes "P13"
line_fault_name lines.RunCount = codes "P14"
line_fault_name lines.Unlike = codes "P15"

-- the name of the fault of receipts, and, if that is a header's fault, the name of this one behind it
abbrev pub receipt_fault_name : ReceiptFault → List ℕ
receipt_fault_name receipts.Truncated = codes "Q1"
receipt_fault_name receipts.UnknownMark = codes "Q2"
receipt_fault_name (receipts.BadHeader fault) = codes "Q3 " ++ header_fault_name fault
receipt_fault_name receipts.OutOfRange = codes "Q4"
receipt_fault_name receipts.OtherRun = codes "Q5"

-- the line of the fault of a text: what is wrong, and in which line of the text
unfoldable pub text_fault_line : ScenarioFault → List ℕ
text_fault_line fault = codes "fault " ++ line_fault_name fault.kind ++ codes " line " ++ decimal fault.line

-- the line of the fault that two generals have the same root
unfoldable pub equal_roots_fault_line : ℕ → ℕ → List ℕ
equal_roots_fault_line a b = codes "fault G2 generals " ++ decimal a ++ codes " " ++ decimal b

-- the line of a fault, without a line feed
abbrev pub job_fault_line : JobFault → List ℕ
job_fault_line (faults.Scenario fault) = text_fault_line fault
job_fault_line (faults.Campaign fault) = codes "fault " ++ campaign_fault_name fault
job_fault_line (faults.Evidence fault) = codes "fault " ++ evidence_fault_name fault
job_fault_line (faults.Receipt fault) = codes "fault " ++ receipt_fault_name fault
job_fault_line (faults.Log fault) = codes "fault " ++ log_fault_name fault
job_fault_line (faults.Seed fault) = codes "fault G1"
job_fault_line (faults.EqualRoots a b) = equal_roots_fault_line a b
job_fault_line faults.OtherRun = codes "fault R1"
job_fault_line faults.Memory = codes "memory"
job_fault_line faults.Thread = codes "thread"
job_fault_line faults.Open = codes "open failed"
job_fault_line faults.Read = codes "read failed"
job_fault_line faults.Write = codes "write failed"

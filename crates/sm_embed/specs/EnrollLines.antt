-- The lines of the faults of identities, systems and admissions.
use Rattle.std.specs.Prelude.{ℕ, ◌++◌, List, codes}
use Rattle.std.specs.Fmt.{decimal}
use Rattle.gen_enroll.specs.FaultNumber.{roots_fault_number}
use Rattle.gen_system.specs.FaultNumber.{admission_fault_number, system_fault_number}
use Rattle.gen_system.specs.declared.admission_fault.AdmissionFault.{AdmissionFault}
use Rattle.gen_system.specs.declared.admission_fault.AdmissionFault.TheVariants as admissions
use Rattle.gen_system.specs.declared.system_fault.SystemFault.{SystemFault}
use Rattle.gen_system.specs.declared.system_fault.SystemFault.TheVariants as systems
use Rattle.gen_enrolling.specs.declared.enroll_fault.EnrollFault.{EnrollFault}
use Rattle.gen_enrolling.specs.declared.enroll_fault.EnrollFault.TheVariants as faults
use Rattle.gen_file.specs.FaultText.{header_fault_name}
use Rattle.gen_ends.specs.Failing.{header_text_failure}
use Rattle.gen_ends.specs.FaultLines.{job_fault_line}

-- the name of a fault without another one behind it: its letter and its number; or words before a number
unfoldable pub name_of : List ℕ → ℕ → List ℕ
name_of letter number = letter ++ decimal number

-- the name of the fault of a system, and, if that is a header's fault, the name of this one behind it
abbrev pub system_fault_name : SystemFault → List ℕ
system_fault_name (systems.BadHeader fault) = codes "U3 " ++ header_fault_name fault
system_fault_name fault = name_of (codes "U") (system_fault_number fault)

-- the name of the fault of an admission, and, if that is a system's fault, the name of this one behind it
abbrev pub admission_fault_name : AdmissionFault → List ℕ
admission_fault_name (admissions.BadSystem fault) = codes "A3 " ++ system_fault_name fault
admission_fault_name fault = name_of (codes "A") (admission_fault_number fault)

-- the line of a fault, without a line feed
abbrev pub enroll_fault_line : EnrollFault → List ℕ
enroll_fault_line (faults.Secret fault) = codes "fault G1"
enroll_fault_line (faults.Roots fault) = codes "fault " ++ name_of (codes "I") (roots_fault_number fault)
enroll_fault_line (faults.Text fault) = job_fault_line (header_text_failure fault)
enroll_fault_line (faults.System fault) = codes "fault " ++ system_fault_name fault
enroll_fault_line (faults.Admission fault) = codes "fault " ++ admission_fault_name fault
enroll_fault_line faults.Fails = codes "fault A7"
enroll_fault_line faults.OtherSet = codes "fault A8"
enroll_fault_line faults.FileCount = codes "fault A9"
enroll_fault_line (faults.OtherIdentity node) = name_of (codes "fault A10 node ") node
enroll_fault_line faults.OtherSystem = codes "fault A11"

-- the number for the line of a fault: 7 for another system than the one that is expected, 3 for any other
abbrev pub enroll_number : EnrollFault → ℕ
enroll_number faults.OtherSystem = 7
enroll_number _ = 3

-- The numbers of the rules that systems and admissions can break.
use Rattle.std.specs.Prelude.{ℕ}
use Rattle.gen_system.specs.declared.system_fault.SystemFault.{SystemFault}
use Rattle.gen_system.specs.declared.system_fault.SystemFault.TheVariants as systems
use Rattle.gen_system.specs.declared.admission_fault.AdmissionFault.{AdmissionFault}
use Rattle.gen_system.specs.declared.admission_fault.AdmissionFault.TheVariants as admissions

abbrev pub system_fault_number : SystemFault → ℕ
system_fault_number systems.Truncated = 1
system_fault_number systems.UnknownMark = 2
system_fault_number (systems.BadHeader rule) = 3
system_fault_number systems.OtherSlot = 4
system_fault_number systems.EqualIdentities = 5
system_fault_number systems.UnknownProposer = 6
system_fault_number systems.TooManyLevels = 7
system_fault_number systems.LeftOver = 8

abbrev pub admission_fault_number : AdmissionFault → ℕ
admission_fault_number admissions.Truncated = 1
admission_fault_number admissions.UnknownMark = 2
admission_fault_number (admissions.BadSystem rule) = 3
admission_fault_number admissions.SetRange = 4
admission_fault_number admissions.OtherLevels = 5
admission_fault_number admissions.LeftOver = 6

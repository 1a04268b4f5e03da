use Rattle.std.proofs.Common.{inr, refl, rules}
use Rattle.gen_ends.specs.declared.ends.JobEnd.TheVariants.{Failed}
use Rattle.gen_ends.specs.declared.ends.JobFault.TheVariants as faults
use Rattle.gen_program.proofs.systems.fail_enrolling.Goals as goal

pub returns-in-Fault : goal.returns-in-Fault
returns-in-Fault g c = record { value = search rules; status = inr (Failed faults.OtherRun, refl) }

pub returns-in-OtherRoots : goal.returns-in-OtherRoots
returns-in-OtherRoots g c = record { value = search rules; status = inr (Failed faults.OtherRun, refl) }

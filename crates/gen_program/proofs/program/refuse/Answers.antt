use Rattle.std.proofs.Common.{inr}
use Rattle.gen_ends.specs.declared.ends.JobEnd.TheVariants.{Failed}
use Rattle.gen_ends.specs.declared.ends.JobFault.TheVariants as faults
use Rattle.gen_program.proofs.program.refuse.Goals as goal

pub returns-in-Memory-clause-status : goal.returns-in-Memory-clause-status
returns-in-Memory-clause-status g c = inr (Failed faults.Memory, c.end_with.ensures)

pub returns-in-Words-clause-status : goal.returns-in-Words-clause-status
returns-in-Words-clause-status g c = inr (Failed faults.Write, c.end_with-in-Err.ensures)

pub returns-clause-status : goal.returns-clause-status
returns-clause-status g c = inr (Failed faults.Memory, c.end_with-in-Err-fault_line.ensures)

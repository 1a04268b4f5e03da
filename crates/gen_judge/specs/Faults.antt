-- Why a run is not judged.
use Rattle.std.specs.Prelude.{Bool, true, false, Result, Ok, Err}
use Rattle.gen_threads.specs.declared.ends.RunFault.{RunFault}
use Rattle.gen_threads.specs.declared.ends.RunFault.TheVariants as runs
use Rattle.gen_audit.specs.declared.faults.AuditFault.{AuditFault}
use Rattle.gen_audit.specs.declared.faults.AuditFault.TheVariants.{Memory, Thread}

-- the audit's fault for a run that has no logs: Memory if memory was refused, and else Thread
abbrev pub fault_of_run : RunFault → AuditFault
fault_of_run runs.Memory = Memory
fault_of_run runs.Thread = Thread
fault_of_run runs.Gone = Thread

-- The answer for a run that ended with these logs or this fault beside workers. It is Memory if memory was
-- refused to one that files or reports; else the fault of the run, if it has no logs; else Thread, if not all
-- workers were started; else the logs.
abbrev pub ended_as : {X : Type 0} → Result X RunFault → (started refused : Bool) → Result X AuditFault
ended_as logs started true = Err Memory
ended_as (Err fault) started false = Err (fault_of_run fault)
ended_as (Ok logs) false false = Err Thread
ended_as (Ok logs) true false = Ok logs

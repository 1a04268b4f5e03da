-- How workers end.
use Rattle.std.specs.Prelude.{Bool, true, false, Result, Ok, Err}
use Rattle.gen_audit.specs.declared.faults.AuditFault.{AuditFault}
use Rattle.gen_audit.specs.declared.faults.AuditFault.TheVariants.{Memory, Thread}

-- The answer of workers with these hands. It is Memory if one that ran has no hand, since memory was refused
-- to it; else Thread, if not all were started; else the hands.
abbrev pub ended_as : {X : Type 0} → X → (complete started : Bool) → Result X AuditFault
ended_as hands false started = Err Memory
ended_as hands true false = Err Thread
ended_as hands true true = Ok hands

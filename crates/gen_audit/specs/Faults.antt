-- Why there is no audit.
use Rattle.std.specs.Prelude.{ℕ, ◌<◌}
use Rattle.gen_audit.specs.declared.faults.AuditFault.{AuditFault}
use Rattle.gen_audit.specs.declared.faults.AuditFault.TheVariants.{Memory, Thread}

-- This many workers may answer the fault. Any number of them may be refused memory. One worker starts no
-- thread.
abbrev pub IsFaultBy : ℕ → AuditFault → Type 0
IsFaultBy workers Memory = Unit {0}
IsFaultBy workers Thread = 1 < workers

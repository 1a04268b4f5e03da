use Rattle.std.proofs.Common.{◌<◌, ℕ}
use Rattle.gen_system.specs.Admitting.{HoldsOf}
use Rattle.gen_system.proofs.admissions.Admission.holds.Given as goal

abbrev pub invariant-nodes : goal.invariant-nodes
invariant-nodes l = (v : ℕ) → v < l.node → HoldsOf l.self v

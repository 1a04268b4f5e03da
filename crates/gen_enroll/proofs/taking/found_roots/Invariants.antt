use Rattle.gen_enroll.specs.Taking.{AreFound}
use Rattle.gen_enroll.proofs.taking.found_roots.Given as goal

abbrev pub invariant-workers : goal.invariant-workers
invariant-workers g l = AreFound l.states l.fn.height l.found.items

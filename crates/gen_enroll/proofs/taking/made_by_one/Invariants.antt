use Rattle.gen_enroll.specs.Taking.{AreMade}
use Rattle.gen_enroll.proofs.taking.made_by_one.Given as goal

abbrev pub invariant-states : goal.invariant-states
invariant-states l = AreMade l.states l.height l.made.items

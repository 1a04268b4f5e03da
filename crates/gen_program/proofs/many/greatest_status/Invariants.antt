use Rattle.std.proofs.Common.{◌≡◌, take}
use Rattle.gen_program.specs.Many.{status_of_all}
use Rattle.gen_program.proofs.many.greatest_status.Given as goal

abbrev pub invariant-loop-ended : goal.invariant-loop-ended
invariant-loop-ended l = l.status ≡ status_of_all (take l.ended-index l.ends)

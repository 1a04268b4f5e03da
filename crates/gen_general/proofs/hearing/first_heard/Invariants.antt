use Rattle.std.proofs.Common.{◌≡◌, length}
use Rattle.gen_scenario.specs.Heard.{first_of}
use Rattle.gen_general.proofs.hearing.first_heard.Given as goal

abbrev pub invariant-rest : goal.invariant-rest
invariant-rest l = first_of l.fn.order l.rest ≡ first_of l.fn.order l.heard

abbrev pub decreases-rest : goal.decreases-rest
decreases-rest l = length l.rest

use Rattle.std.proofs.Common.{◌≡◌, length}
use Rattle.gen_scenario.specs.Heard.{heard_from}
use Rattle.gen_general.proofs.hearing.find_heard.Given as goal

abbrev pub invariant-rest : goal.invariant-rest
invariant-rest l = heard_from l.fn.round l.fn.from l.fn.order l.rest ≡ heard_from l.fn.round l.fn.from l.fn.order l.heard

abbrev pub decreases-rest : goal.decreases-rest
decreases-rest l = length l.rest

use Rattle.std.proofs.Common.{◌≡◌, take}
use Rattle.gen_general.specs.Planned.{planned_in}
use Rattle.gen_scenario.specs.SignerTrees.{keys_with}
use Rattle.gen_general.proofs.scripted.plan_round.Given as goal

abbrev pub invariant-lines : goal.invariant-lines
invariant-lines l = l.planned.items ≡ planned_in (keys_with l.header l.trees) l.me (take l.line-index l.lines) l.heard l.round

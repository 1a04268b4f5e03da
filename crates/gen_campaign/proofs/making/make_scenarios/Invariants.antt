use Rattle.std.proofs.Common.{◌≡◌, ◌++◌}
use Rattle.std.specs.Vec.Iter.{into_iter_items}
use Rattle.gen_campaign.proofs.making.make_scenarios.Given as goal

abbrev pub invariant-loop-plan : goal.invariant-loop-plan
invariant-loop-plan l = l.scenarios.items ++ into_iter_items l.plan-iterator ≡ l.fn.plans.items

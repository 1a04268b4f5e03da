use Rattle.std.proofs.Common.{◌≡◌, ◌-◌, ◌++◌, map, take}
use Rattle.std.specs.List.{range_with_len}
use Rattle.gen_scenario.specs.SignedWorld.{near_of}
use Rattle.gen_async.specs.declared.acts.Act.TheVariants.{Puts, Takes}
use Rattle.gen_async.specs.Acts.{acts_of_rounds}
use Rattle.gen_async.proofs.plans.plan.Given as goal

abbrev pub invariant-generals : goal.invariant-generals
invariant-generals l = l.found.items ≡ near_of l.net l.me (range_with_len 0 l.number)

abbrev pub invariant-rounds : goal.invariant-rounds
invariant-rounds l = l.acts.items ≡ acts_of_rounds l.near 1 (l.round - 1)

abbrev pub invariant-puts : goal.invariant-puts
invariant-puts l = l.acts.items ≡ l.initial.acts.items ++ map (Puts l.round) (take l.to-index l.near)

abbrev pub invariant-takes : goal.invariant-takes
invariant-takes l = l.acts.items ≡ l.initial.acts.items ++ map (Takes l.round) (take l.from-index l.near)

-- What is said of a plan.
use Rattle.std.specs.Prelude.{◌≤◌, length}
use Rattle.gen_net.specs.Network.{Network}
use Rattle.gen_plan.specs.Plans.{Withstands, IsFirstCut, IsLeastDiameter, IsMostTraitors}
use Rattle.gen_plan.specs.declared.plans.PlanFailure.{PlanFailure}
use Rattle.gen_plan.specs.declared.plans.PlanResult.{PlanResult}
use Rattle.gen_plan.specs.declared.plans.PlanResult.TheVariants.{Holds, Fails}

-- the failure names the first set of at most m generals that cuts, the least pair, and what would do
pub record IsFailure (net : Network) (failure : PlanFailure) : Type 0 where
  pub few : length failure.faulty ≤ net.traitors
  pub cut : IsFirstCut net net.diameter failure.faulty failure.a failure.b
  pub diameter : IsLeastDiameter net net.traitors failure.least_diameter
  pub traitors : IsMostTraitors net net.diameter failure.most_traitors

-- the plan holds if and only if the network withstands m faulty generals with the diameter d
abbrev pub IsPlanResult : Network → PlanResult → Type 0
IsPlanResult net Holds = Withstands net net.traitors net.diameter
IsPlanResult net (Fails failure) = IsFailure net failure

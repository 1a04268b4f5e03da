use Rattle.gen_scenario.proofs.Same.{one_world_shown}
use Rattle.gen_scenario.proofs.WorldFollowers.{lieutenants_follow, world_is_signed}
use Rattle.gen_scenario.proofs.Obeying.{world_meets_premises}
use Rattle.gen_scenario.proofs.laws.world_follows.Goals as goal

pub returns-clause-one : goal.returns-clause-one
returns-clause-one c = one_world_shown

pub returns-clause-lieutenants : goal.returns-clause-lieutenants
returns-clause-lieutenants c = lieutenants_follow

pub returns-clause-signed : goal.returns-clause-signed
returns-clause-signed c = world_is_signed

pub returns-clause-premises : goal.returns-clause-premises
returns-clause-premises c = world_meets_premises

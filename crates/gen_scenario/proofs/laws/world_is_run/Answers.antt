use Rattle.gen_scenario.proofs.HeardBy.{is_run}
use Rattle.gen_scenario.proofs.FollowerRelays.{commander_obeys, lieutenants_relay}
use Rattle.gen_scenario.proofs.Conducts.{each_follows, plain_world}
use Rattle.gen_scenario.proofs.laws.world_is_run.Goals as goal

pub returns-clause-run : goal.returns-clause-run
returns-clause-run c = is_run

pub returns-clause-commander : goal.returns-clause-commander
returns-clause-commander c = commander_obeys

pub returns-clause-lieutenants : goal.returns-clause-lieutenants
returns-clause-lieutenants c = lieutenants_relay

pub returns-clause-follows : goal.returns-clause-follows
returns-clause-follows c = each_follows

pub returns-clause-plain : goal.returns-clause-plain
returns-clause-plain c = plain_world

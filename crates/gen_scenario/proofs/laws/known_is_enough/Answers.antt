use Rattle.gen_scenario.proofs.KeysEnough.{keys_are_enough, own_seed_is_enough, known_trees_are_enough}
use Rattle.gen_scenario.proofs.laws.known_is_enough.Goals as goal

pub returns : goal.returns
returns c = record { enough = keys_are_enough; follower = own_seed_is_enough; traitor = known_trees_are_enough }

use Rattle.gen_audit.proofs.RunBundles.{logs_make_bundle, world_is_bundle, world_makes_bundle}
use Rattle.gen_audit.proofs.laws.own_runs_make_bundles.Goals as goal

pub returns-clause-any : goal.returns-clause-any
returns-clause-any c = logs_make_bundle

pub returns-clause-made : goal.returns-clause-made
returns-clause-made c = world_makes_bundle

pub returns-clause-bundle : goal.returns-clause-bundle
returns-clause-bundle c = world_is_bundle

use Rattle.gen_scenario.proofs.Deriving.{signed_by_faulty, prolonged_by_faulty}
use Rattle.gen_scenario.proofs.laws.derivables.Goals as goal

pub returns-clause-signed_by_faulty : goal.returns-clause-signed_by_faulty
returns-clause-signed_by_faulty c = signed_by_faulty

pub returns-clause-prolonged_by_faulty : goal.returns-clause-prolonged_by_faulty
returns-clause-prolonged_by_faulty c = prolonged_by_faulty

use Rattle.gen_chain.proofs.TestedChains.{tests_verifying}
use Rattle.gen_chain.proofs.laws.verifying_is_tested.Goals as goal

pub returns : goal.returns
returns c = tests_verifying

use Rattle.gen_chain.proofs.ChainLaws.{chain_parts}
use Rattle.gen_chain.proofs.laws.chains_are_spelled.Goals as goal

pub returns-clause-chain : goal.returns-clause-chain
returns-clause-chain c = λ height bytes rest chain e. (chain_parts height bytes (chain, rest) e).1

pub returns-clause-spelled : goal.returns-clause-spelled
returns-clause-spelled c = λ height bytes rest chain e. (chain_parts height bytes (chain, rest) e).0

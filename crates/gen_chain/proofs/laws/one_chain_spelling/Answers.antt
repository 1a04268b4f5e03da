use Rattle.gen_types.proofs.Front.{one_spelling_by}
use Rattle.gen_chain.specs.Chain.{IsSignedChain, chain_spelling}
use Rattle.gen_chain.specs.ChainReading.{chain_at}
use Rattle.gen_chain.proofs.ChainLaws.{chains_read}
use Rattle.gen_chain.proofs.laws.one_chain_spelling.Goals as goal

pub returns : goal.returns
returns c = λ height. one_spelling_by (chain_at height) chain_spelling (IsSignedChain height) (chains_read height)

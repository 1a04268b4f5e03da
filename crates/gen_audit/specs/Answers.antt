-- Answers to verifications under a header.
use Rattle.gen_net.specs.Header.{RunHeader}
use Rattle.gen_chain.specs.Store.{Store}

pub record Answers : Type 0 where
  pub header : RunHeader
  pub store : Store

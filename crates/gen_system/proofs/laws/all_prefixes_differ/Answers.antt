use Rattle.std.proofs.Common.{refl}
use Rattle.gen_chain.proofs.DistinctPaths.{distinct_from}
use Rattle.gen_system.specs.Prefixes.{all_prefixes}
use Rattle.gen_system.proofs.laws.all_prefixes_differ.Goals as goal

pub returns : goal.returns
returns c = λ slot. distinct_from (all_prefixes slot) refl

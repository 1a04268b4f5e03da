use Rattle.std.proofs.Common.{◌≡◌, length}
use Rattle.gen_chain.specs.Chain.{signed_path}
use Rattle.gen_chain.specs.ChainReading.{repeats}
use Rattle.gen_chain.proofs.reading.are_distinct.Given as goal

abbrev pub invariant-loop-first : goal.invariant-loop-first
invariant-loop-first l = repeats (signed_path l.rest) ≡ repeats (signed_path l.signers)

abbrev pub decreases-loop-first : goal.decreases-loop-first
decreases-loop-first l = length l.rest

use Rattle.std.proofs.Common.{◌≡◌, ◌-◌}
use Rattle.gen_types.specs.Bytes.{many_at}
use Rattle.gen_types.proofs.ManyFields.{with_front}
use Rattle.gen_chain.specs.ChainReading.{signer_at}
use Rattle.gen_chain.proofs.reading.read_many.Given as goal

abbrev pub invariant-loop : goal.invariant-loop
invariant-loop l = with_front l.signers.items (many_at (signer_at l.height) (l.count - l.counter) l.rest) ≡ many_at (signer_at l.height) l.count l.bytes

use Rattle.std.proofs.Common.{◌≡◌, ◌≤◌, ◌+◌, ◌++◌, length, take, vec_len, vec_capacity}
use Rattle.std.specs.List.{flat_map}
use Rattle.gen_chain.specs.Chain.{signer_spelling, signers_length}
use Rattle.gen_chain.proofs.chains.SignedChain.append_to.Given as goal

abbrev pub invariant-signers : goal.invariant-signers
invariant-signers l = record {
  items : l.out.items ≡ l.initial.out.items ++ flat_map signer_spelling (take l.signer-index l.signers);
  len : vec_len l.out ≡ vec_len l.initial.out + length (flat_map signer_spelling (take l.signer-index l.signers));
  capacity : vec_capacity l.initial.out ≤ vec_capacity l.out;
  room : vec_len l.initial.out + signers_length l.signers ≤ vec_capacity l.initial.out;
}

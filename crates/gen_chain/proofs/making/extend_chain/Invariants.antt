use Rattle.std.proofs.Common.{◌≡◌, ◌≤◌, ◌+◌, length, take, vec_len, vec_capacity}
use Rattle.gen_chain.proofs.making.extend_chain.Given as goal

abbrev pub invariant-earlier : goal.invariant-earlier
invariant-earlier l = record {
  items : l.signers.items ≡ take l.signer-index l.chain.signers;
  len : vec_len l.signers ≡ l.signer-index;
  rooms : length l.chain.signers ≤ vec_len l.copies + l.signer-index;
  capacity : length l.chain.signers + 1 ≤ vec_capacity l.signers;
}

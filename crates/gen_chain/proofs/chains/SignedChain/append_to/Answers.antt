use Rattle.std.proofs.Common.{arith}
use Rattle.gen_chain.proofs.Room.{signer_fits, ok_with_room}
use Rattle.gen_chain.proofs.chains.SignedChain.append_to.Goals as goal

pub unwrap-requires-in-signers : goal.unwrap-requires-in-signers
unwrap-requires-in-signers c =
    let fits = signer_fits c.signers-signers.result.now c.signers.signer-index c.signer-item.result c.signers-test.true c.signer-item.is in
    c.push.ensures.succeeds (omega (arith, fits, c.signers.invariant.room, c.signers.invariant.len, c.signers.invariant.capacity))

pub unwrap-requires-in-signers-2 : goal.unwrap-requires-in-signers-2
unwrap-requires-in-signers-2 c =
    let fits = signer_fits c.signers-signers.result.now c.signers.signer-index c.signer-item.result c.signers-test.true c.signer-item.is in
    let ok = c.push.ensures.succeeds (omega (arith, fits, c.signers.invariant.room, c.signers.invariant.len, c.signers.invariant.capacity)) in
    let len = rw ok at c.push.ensures.len in
    ok_with_room c.append_to.result _ c.append_to.ensures.full (λ short. absurd (omega (arith, short, len, c.push.ensures.capacity, fits, c.signers.invariant.room, c.signers.invariant.len, c.signers.invariant.capacity)))

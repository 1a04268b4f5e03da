use Rattle.std.proofs.Common.{◌≡◌, length, arith}
use Rattle.gen_chain.proofs.ChainLaws.{length-signers, signers_most}
use Rattle.gen_chain.proofs.chains.SignedChain.byte_count.Goals as goal

pub returns-clause-value : goal.returns-clause-value
returns-clause-value c =
    let wide = length-signers c.self.inside.height c.self.inside.signers.items c.self.invariant.wide in
    let count : c.len.result ≡ length c.self.inside.signers.items = omega (arith, c.len.ensures) in
    let bytes = rw count at c.signers_bytes.ensures in
    rw (← c.self.view_is) (omega (arith, wide, bytes))

pub returns-clause-most : goal.returns-clause-most
returns-clause-most c =
    let count : c.len.result ≡ length c.self.inside.signers.items = omega (arith, c.len.ensures) in
    let bytes = rw count at c.signers_bytes.ensures in
    let most = signers_most c.self.inside.height (length c.self.inside.signers.items) c.self.invariant.few in
    omega (arith, bytes, most)

use Rattle.std.proofs.Common.{◌≡◌, ◌∷◌, []}
use Rattle.gen_chain.specs.declared.chains.Signer.{Signer}
use Rattle.gen_chain.specs.Making.{signed_by}
use Rattle.gen_chain.proofs.SignedSoFar.{none_signed, signed-push}
use Rattle.gen_chain.proofs.making.begin_chain.Goals as goal

pub returns-clause-verifies : goal.returns-clause-verifies
returns-clause-verifies c = λ of_key known.
    let h = c.args.header.now in
    let s : Signer = signed_by c.args.key h (record { order = c.args.order; path = 0 ∷ [] }) 0 in
    let items : c.sign_behind.new.signers.items ≡ s ∷ [] = rw (c.room.invariant.empty, c.commander-me.ensures, c.commander-path.ensures) at c.sign_behind.ensures.items in
    let signed = rw (c.commander-me.ensures, c.commander-path.ensures) at c.sign_behind.ensures.signed in
    (known, rw items (signed-push h c.args.order [] s (none_signed h c.args.order) (signed of_key)))

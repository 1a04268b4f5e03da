use Rattle.std.proofs.Common.{◌≡◌, refl, rules}
use Rattle.gen_convict.proofs.checking.text_verifies.Goals as goal

pub returns-in-OfStatement : goal.returns-in-OfStatement
returns-in-OfStatement c =
    let signer : c.args.text.now.signer ≡ c.args.general = search rules in (
      (λ t. let v = c.statement_verifies.ensures.0 t in record { signer = signer; his = rw c.in-OfStatement.is v.his; stands = rw c.in-OfStatement.is v.stands }),
      (λ k. c.statement_verifies.ensures.1 (record { signer = refl; his = rw c.in-OfStatement.is at k.his; stands = rw c.in-OfStatement.is at k.stands })),
    )

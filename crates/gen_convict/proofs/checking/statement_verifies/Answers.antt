use Rattle.std.proofs.Common.{refl}
use Rattle.gen_convict.proofs.checking.statement_verifies.Goals as goal

pub returns-then-ends_with : goal.returns-then-ends_with
returns-then-ends_with c = (
  (λ t. record { signer = refl; his = c.ends_with.ensures.0 c.if-ends_with.true; stands = c.has_signed.ensures.0 t }),
  (λ v. c.has_signed.ensures.1 v.stands),
)

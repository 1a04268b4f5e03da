use Rattle.std.proofs.Common.{false}
use Rattle.gen_convict.proofs.Sealed.{missing_told}
use Rattle.gen_convict.proofs.checking.is_missing_from.Goals as goal

pub returns-then-has_sign : goal.returns-then-has_sign
returns-then-has_sign c = missing_told c.args.header.now c.args.general c.args.bytes.now c.in-Some.log c.args.statement.now c.args.signature.now false c.in_ok-sealed_log.ensures.header (rw c.in-Some.is at c.in_ok-sealed_log.ensures.found) (
  (λ t. absurd cc),
  (λ k. absurd (k.1 (c.has_sign.ensures.0 c.if-has_sign.true))),
)

pub returns-else-has_sign : goal.returns-else-has_sign
returns-else-has_sign c = missing_told c.args.header.now c.args.general c.args.bytes.now c.in-Some.log c.args.statement.now c.args.signature.now c.statement_verifies.result c.in_ok-sealed_log.ensures.header (rw c.in-Some.is at c.in_ok-sealed_log.ensures.found) (
  (λ t. (c.statement_verifies.ensures.0 t, λ has. let e = c.has_sign.ensures.1 has in let f = c.if-has_sign.false in absurd cc)),
  (λ k. c.statement_verifies.ensures.1 k.0),
)

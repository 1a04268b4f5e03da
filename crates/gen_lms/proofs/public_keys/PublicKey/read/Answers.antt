use Rattle.std.proofs.Common.{take, sym, ap, ◌∙◌}
use Rattle.gen_lms.specs.PublicKeys.{IsKeyFault, u32_of}
use Rattle.gen_lms.proofs.public_keys.PublicKey.read.Goals as goal

pub returns-then-bytes-ne-KEY_BYTES-clause-err : goal.returns-then-bytes-ne-KEY_BYTES-clause-err
unfolding IsKeyFault
returns-then-bytes-ne-KEY_BYTES-clause-err c = c.if-bytes-ne-KEY_BYTES.true

pub returns-in_default-clause-err : goal.returns-in_default-clause-err
unfolding IsKeyFault
returns-in_default-clause-err c =
    (c.if-bytes-ne-KEY_BYTES.false, λ height e. c.in_default.ensures.none height (c.u32_of.ensures ∙ ap u32_of c.split_at.ensures.front ∙ e))

pub returns-then-u32_of-ne-TYPE_CODE-clause-err : goal.returns-then-u32_of-ne-TYPE_CODE-clause-err
unfolding IsKeyFault
returns-then-u32_of-ne-TYPE_CODE-clause-err c = (
  c.if-bytes-ne-KEY_BYTES.false,
  (c.in-Some.height, sym (c.u32_of.ensures ∙ ap u32_of c.split_at.ensures.front) ∙ c.in-Some.ensures.some),
  λ e. c.if-u32_of-ne-TYPE_CODE.true (c.u32_of-2.ensures ∙ ap u32_of (c.split_at-2.ensures.front ∙ ap (take 4) c.split_at.ensures.back) ∙ e),
)

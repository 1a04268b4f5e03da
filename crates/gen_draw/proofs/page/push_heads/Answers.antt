use Rattle.std.proofs.Common.{arith}
use Rattle.gen_draw.specs.Shapes.{head_of}
use Rattle.gen_draw.proofs.Ranges.{one_more}
use Rattle.gen_draw.proofs.page.push_heads.Goals as goal

pub loop-order-preserved : goal.loop-order-preserved
unfolding head_of
loop-order-preserved c = one_more head_of 0 c.loop-order.order-counter c.loop-order.order-counter _ _ _ (omega arith) c.loop-order.invariant c.in_ok-write.ensures.bytes

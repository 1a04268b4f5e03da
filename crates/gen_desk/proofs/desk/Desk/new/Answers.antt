use Rattle.std.proofs.Common.{arith}
use Rattle.gen_desk.proofs.FiledOnce.{range_more}
use Rattle.gen_desk.proofs.desk.Desk.new.Goals as goal

pub loop-place-preserved : goal.loop-place-preserved
loop-place-preserved c =
    (rw (c.push_reserved.ensures.items, c.loop-place.invariant.0, range_more), omega arith, omega arith)

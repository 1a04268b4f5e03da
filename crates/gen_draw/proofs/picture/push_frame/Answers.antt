use Rattle.std.proofs.Common.{arith}
use Rattle.gen_draw.specs.Picture.{line_in}
use Rattle.gen_draw.proofs.Held.{held}
use Rattle.gen_draw.proofs.Ranges.{one_more}
use Rattle.gen_draw.proofs.picture.push_frame.Goals as goal

pub loop-number-preserved : goal.loop-number-preserved
unfolding line_in
loop-number-preserved c = one_more (line_in c.args.net.now c.args.faulty.now) 0 _ c.loop-number.number _ _ _ (omega arith) c.loop-number.invariant (
    rw (← c.grid_of-grid.ensures, ← held c.contains-held.result c.args.faulty.now c.loop-number.number (rw c.at.ensures at c.contains-held.ensures))
    c.in_ok-push_general.ensures)

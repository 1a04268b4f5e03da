use Rattle.std.proofs.Common.{◌+◌, arith, append_assoc}
use Rattle.gen_draw.specs.Page.{round_line}
use Rattle.gen_draw.proofs.Ranges.{one_more}
use Rattle.gen_draw.proofs.page.push_rounds.Goals as goal

pub loop-before-preserved : goal.loop-before-preserved
unfolding round_line
loop-before-preserved c = one_more (round_line c.args.grid) 1 c.loop-before.before (c.from.result + 1) _ _ _ (omega arith) c.loop-before.invariant (rw (← c.column-x.ensures.value, ← c.row_of-end.ensures.value) (simp append_assoc at c.in_ok-write.ensures.bytes))

use Rattle.std.proofs.Common.{arith, map}
use Rattle.gen_convict.specs.Evidence.{told_of}
use Rattle.gen_draw.specs.Marks.{end_line, note_line}
use Rattle.gen_draw.proofs.Ranges.{one_more}
use Rattle.gen_draw.proofs.picture.push_notes.Goals as goal

pub loop-number-preserved : goal.loop-number-preserved
loop-number-preserved c = one_more (end_line c.grid_of-grid.result c.args.decided.now (map told_of c.as_slice-convictions.result.now)) 0 _ _ _ _ _ (omega arith) c.loop-number.invariant c.in_ok-push_end.ensures

pub loop-number-2-preserved : goal.loop-number-2-preserved
loop-number-2-preserved c = one_more (note_line c.findings-findings.result.now) 0 _ _ _ _ _ (omega arith) c.loop-number-2.invariant c.in_ok-push_note.ensures

use Rattle.std.proofs.Common.{vec_len}
use Rattle.row_calls.proofs.again_desks.file_all.Given as goal

abbrev pub decreases-loop-slip : goal.decreases-loop-slip
decreases-loop-slip g l = vec_len l.slips

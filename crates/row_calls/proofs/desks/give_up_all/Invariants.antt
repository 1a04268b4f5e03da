use Rattle.std.proofs.Common.{vec_len}
use Rattle.row_calls.proofs.desks.give_up_all.Given as goal

abbrev pub decreases-loop-slip : goal.decreases-loop-slip
decreases-loop-slip l = vec_len l.slips

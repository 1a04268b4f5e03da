-- The rows, by computing.
use Rattle.std.proofs.Common.{refl}
use Rattle.gen_async.specs.Acts.{acts_of}
use Rattle.gen_async.specs.Machine.{moved_acts, next_act, put, taken, answer, step, mover}
use Rattle.gen_async.specs.Rows.{PairRow, PairEnds, TriangleRow, TriangleTwo}

pub pair_row : PairRow
unfolding acts_of moved_acts next_act put taken answer step
pair_row = refl

pub pair_ends : PairEnds
unfolding acts_of moved_acts next_act put taken answer step mover
pair_ends = refl

pub triangle_row : TriangleRow
unfolding acts_of moved_acts next_act put taken answer step
triangle_row = refl

pub triangle_two : TriangleTwo
unfolding acts_of moved_acts next_act put taken answer step
triangle_two = refl

use Rattle.std.proofs.Common.{arith}
use Rattle.gen_match.proofs.Keys.{small_room}
use Rattle.gen_match.proofs.prefixes.longer.Goals as goal

pub overflow_mul-result : goal.overflow_mul-result
overflow_mul-result c = omega (arith, small_room c.args.number c.args.count (omega (arith, c.requires.room)) c.requires.small)

pub overflow_add-result : goal.overflow_add-result
overflow_add-result c = omega (arith, small_room c.args.number c.args.count (omega (arith, c.requires.room)) c.requires.small, c.from.ensures, c.get.ensures.below)

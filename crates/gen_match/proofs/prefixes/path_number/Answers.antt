use Rattle.std.proofs.Common.{arith}
use Rattle.gen_match.proofs.Keys.{small_room}
use Rattle.gen_match.proofs.prefixes.path_number.Goals as goal

pub returns-clause-small : goal.returns-clause-small
returns-clause-small c = small_room c.loop-general.number c.loop-general.count (omega (arith, c.loop-general.invariant.room)) c.loop-general.invariant.below

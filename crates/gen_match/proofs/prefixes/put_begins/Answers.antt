use Rattle.std.proofs.Common.{arith, ap, length}
use Rattle.gen_match.proofs.Keys.{small_room}
use Rattle.gen_match.proofs.prefixes.put_begins.Goals as goal

pub source_key-requires-clause-small : goal.source_key-requires-clause-small
source_key-requires-clause-small c = small_room c.longer-number.result _ (omega (arith, c.loop-general.invariant.room, ap length c.in-Some.ensures.cases.0)) c.longer-number.ensures.small

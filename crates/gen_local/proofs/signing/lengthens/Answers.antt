use Rattle.std.proofs.Common.{arith}
use Rattle.std.proofs.lemmas.Grind.{common_steps}
use Rattle.gen_local.proofs.ReceivedBefore.{received_decides}
use Rattle.gen_local.proofs.signing.lengthens.Goals as goal

pub returns-else-is_empty : goal.returns-else-is_empty
returns-else-is_empty c = let received = received_decides _ _ _ c.args.before.now c.was_received.ensures in grind (arith, common_steps, received)

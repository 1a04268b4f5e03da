-- A receipt that was put into the room of a caller.
use Rattle.std.proofs.Common.{ℕ, List, Option}
use Rattle.sm_node.specs.declared.held.NodeHandle.{NodeHandle}
use Rattle.sm_node.specs.declared.told.NodeReply.{NodeReply}
use Rattle.sm_node.specs.declared.told.NodeReply.TheVariants.{Done, Misuse, Fault, Memory, Length}
use Rattle.sm_node.specs.Driving.{HandsReceipt, IsEnded}
use Rattle.sm_node.specs.EndedNode.{EndedNode, IsOwnReceipt}
use Rattle.sm_node.specs.Handing.{PutsText}

pub receipt_handed : (held : Option NodeHandle) (e : EndedNode) (text old new : List ℕ) (count : ℕ) (told : NodeReply) → IsEnded held e → IsOwnReceipt e.header e.log text → PutsText text old new count told → HandsReceipt held old new count told
receipt_handed held e text old new count Done ended own puts = (e, ended, (text, own, puts))
receipt_handed held e text old new count Length ended own puts = (e, ended, (text, own, puts))
receipt_handed held e text old new count Misuse ended own puts = absurd puts
receipt_handed held e text old new count Fault ended own puts = absurd puts
receipt_handed held e text old new count Memory ended own puts = absurd puts

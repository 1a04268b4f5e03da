use Rattle.std.proofs.Common.{◌≡◌, ◌++◌, map, take}
use Rattle.std.specs.List.{flat_map}
use Rattle.gen_draw.specs.Telling.{receiver_arrows, sender_arrow}
use Rattle.gen_draw.proofs.telling.arrows_between.Given as goal

abbrev pub invariant-loop-message : goal.invariant-loop-message
invariant-loop-message l = l.arrows.items ≡ map (sender_arrow l.received) (take l.message-index l.sent)

abbrev pub invariant-loop-message-2 : goal.invariant-loop-message-2
invariant-loop-message-2 l = l.arrows.items ≡ map (sender_arrow l.received) l.sent ++ flat_map (receiver_arrows l.sent) (take l.message-index l.received)

-- Which messages are drawn: those that shown logs say were sent or were received.
use Rattle.std.specs.Prelude.{Bool, ◌&&◌, ◌==◌, if◌then◌else◌, List, [], ◌∷◌, ◌++◌, map, nat_eq}
use Rattle.std.specs.List.{flat_map, list_any}
use Rattle.std.specs.Cmp.Lexicographic.{pointwise}
use Rattle.gen_net.specs.declared.message.Message.{Message}
use Rattle.gen_draw.specs.declared.arrow.Arrow.{Arrow}
use Rattle.gen_draw.specs.declared.arrow.ToldBy.TheVariants.{Both, Sender, Receiver}

-- whether two messages are the same: sender, receiver, order and path
abbrev pub is_same : Message → Message → Bool
is_same a b =
    (a.from == b.from) && ((a.to == b.to) && ((a.order == b.order) && pointwise nat_eq a.path b.path))

-- whether a message is among others
abbrev pub tells : List Message → Message → Bool
tells messages m = list_any (is_same m) messages

-- the arrow of a message that was sent: both logs have it if it is among the received messages
abbrev pub sender_arrow : List Message → Message → Arrow
sender_arrow received m = record { message = m; told = if tells received m then Both else Sender }

-- the arrow of a message that was received: there is one only if no shown log says that the message was sent
abbrev pub receiver_arrows : List Message → Message → List Arrow
receiver_arrows sent m = if tells sent m then [] else record { message = m; told = Receiver } ∷ []

-- the arrows of the messages that were sent, and then of those that were received alone
abbrev pub arrows_between : List Message → List Message → List Arrow
arrows_between sent received = map (sender_arrow received) sent ++ flat_map (receiver_arrows sent) received

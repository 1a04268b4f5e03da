-- What the calls make of a node that is held: it is driven through its rounds, and ended.
use Rattle.std.specs.Prelude.{ℕ, ◌≡◌, Bool, true, false, List, Option, Some, Ok, Err}
use Rattle.gen_types.specs.Spelled.{Spells}
use Rattle.gen_general.specs.Recording.{Recorder, log_written}
use Rattle.gen_node.specs.declared.frame_fault.FrameFault.{FrameFault}
use Rattle.gen_node.specs.Frame.{IsFrame, frame_spelling}
use Rattle.gen_node.specs.Longest.{IsInBounds}
use Rattle.gen_node.specs.Node.{Node, IsBegun, awaits, decision_of_node, ended, frame_to, handed, header_at}
use Rattle.gen_node.specs.Node.{is_awaited, is_over, may_begin, may_end}
use Rattle.sm_node.specs.declared.held.NodeHandle.{NodeHandle}
use Rattle.sm_node.specs.declared.held.NodeHandle.TheVariants.{Ended}
use Rattle.sm_node.specs.declared.told.NodeReply.{NodeReply}
use Rattle.sm_node.specs.declared.told.NodeReply.TheVariants.{Done, Misuse, Fault, Memory, Length}
use Rattle.sm_node.specs.EndedNode.{EndedNode, IsOwnReceipt}
use Rattle.sm_node.specs.Faults.{frame_number}
use Rattle.sm_node.specs.Handing.{IsUntouched, PutsText}
use Rattle.sm_node.specs.NodeHandle.{allows, has_ended, Becomes, IsRunning}

-- the call may not be made: no node that has not ended passes the test, and nothing has changed
abbrev pub IsRefused : (Node → Bool) → Option NodeHandle → Option NodeHandle → Type 0
IsRefused may old new = (new ≡ old) × (allows may old ≡ false)

-- a round begins; or memory was refused, and a further call goes on with it
abbrev pub Begins : Option NodeHandle → Option NodeHandle → NodeReply → Type 0
Begins old new Done = (allows may_begin old ≡ true) × Becomes IsBegun old new
Begins old new Misuse = IsRefused may_begin old new
Begins old new Memory =
    (allows may_begin old ≡ true)
    × Becomes (λ n m. ((later : Node) → IsBegun m later → IsBegun n later) × (may_begin m ≡ true)) old new
Begins old new Fault = ⊥
Begins old new Length = ⊥

-- a round ends; or memory was refused, and a further call goes on with it
abbrev pub Ends : Option NodeHandle → Option NodeHandle → NodeReply → Type 0
Ends old new Done = (allows may_end old ≡ true) × Becomes (λ n m. m ≡ ended n) old new
Ends old new Misuse = IsRefused may_end old new
Ends old new Memory =
    (allows may_end old ≡ true) × Becomes (λ n m. (ended m ≡ ended n) × (may_end m ≡ true)) old new
Ends old new Fault = ⊥
Ends old new Length = ⊥

-- a round is open, and the bytes are the frame of this round to a neighbour, which is within the bounds of
-- frames
abbrev pub IsFrameTo : ℕ → Option NodeHandle → List ℕ → Type 0
IsFrameTo to held bytes =
    (n : Node) × IsRunning held n × (awaits n to ≡ true)
    × Spells IsFrame frame_spelling bytes (frame_to n.recorder to)
    × IsInBounds (header_at n.recorder) (frame_to n.recorder to)

-- the frame of this round to a neighbour is handed out, or its length alone
abbrev pub Sends : ℕ → Option NodeHandle → List ℕ → List ℕ → ℕ → NodeReply → Type 0
Sends to held old new count Done =
    (bytes : List ℕ) × IsFrameTo to held bytes × PutsText bytes old new count Done
Sends to held old new count Length =
    (bytes : List ℕ) × IsFrameTo to held bytes × PutsText bytes old new count Length
Sends to held old new count Misuse = IsUntouched old new count × (allows (λ n. awaits n to) held ≡ false)
Sends to held old new count Memory = IsUntouched old new count × (allows (λ n. awaits n to) held ≡ true)
Sends to held old new count Fault = ⊥

-- bytes are taken as the frame of this round from a neighbour, or the number of their fault is told
abbrev pub Hears : ℕ → List ℕ → Option NodeHandle → Option NodeHandle → ℕ → NodeReply → Type 0
Hears from bytes old new fault Done = (fault ≡ 0) × Becomes (λ n m. handed n from bytes ≡ Ok m) old new
Hears from bytes old new fault Fault =
    (new ≡ old) × ((n : Node) × (f : FrameFault) × IsRunning old n × (handed n from bytes ≡ Err f)
    × (fault ≡ frame_number f))
Hears from bytes old new fault Misuse = (fault ≡ 0) × IsRefused (λ _. true) old new
Hears from bytes old new fault Memory =
    (fault ≡ 0) × (new ≡ old) × (allows (λ n. is_awaited n from) old ≡ true)
Hears from bytes old new fault Length = ⊥

-- what is left of a node that has ended: its header, its sealed log and its decision
abbrev pub ending_of : Recorder → EndedNode
ending_of r = record { header = header_at r; log = log_written r; decision = decision_of_node r }

-- the node ends after the last round, and this is left
abbrev pub Finishes : Option NodeHandle → Option NodeHandle → NodeReply → Type 0
Finishes old new Done =
    (n : Node) × IsRunning old n × (is_over n ≡ true) × (new ≡ Some (Ended (ending_of n.recorder)))
Finishes old new Misuse = IsRefused is_over old new
Finishes old new Memory = (new ≡ old) × (allows is_over old ≡ true)
Finishes old new Fault = ⊥
Finishes old new Length = ⊥

-- this ending is what is held
abbrev pub IsEnded : Option NodeHandle → EndedNode → Type 0
IsEnded held e = held ≡ Some (Ended e)

-- the log of a node that has ended is handed out, or its length alone
abbrev pub HandsLog : Option NodeHandle → List ℕ → List ℕ → ℕ → NodeReply → Type 0
HandsLog held old new count Done = (e : EndedNode) × IsEnded held e × PutsText e.log.bytes old new count Done
HandsLog held old new count Length =
    (e : EndedNode) × IsEnded held e × PutsText e.log.bytes old new count Length
HandsLog held old new count Misuse = IsUntouched old new count × (has_ended held ≡ false)
HandsLog held old new count Memory = ⊥
HandsLog held old new count Fault = ⊥

-- the receipt of the log of a node that has ended is handed out, or its length alone; it holds
abbrev pub HandsReceipt : Option NodeHandle → List ℕ → List ℕ → ℕ → NodeReply → Type 0
HandsReceipt held old new count Done =
    (e : EndedNode) × IsEnded held e
    × ((text : List ℕ) × IsOwnReceipt e.header e.log text × PutsText text old new count Done)
HandsReceipt held old new count Length =
    (e : EndedNode) × IsEnded held e
    × ((text : List ℕ) × IsOwnReceipt e.header e.log text × PutsText text old new count Length)
HandsReceipt held old new count Misuse = IsUntouched old new count × (has_ended held ≡ false)
HandsReceipt held old new count Memory = IsUntouched old new count × (has_ended held ≡ true)
HandsReceipt held old new count Fault = ⊥

-- the order that a node that has ended decided is told
abbrev pub TellsOrder : Option NodeHandle → ℕ → NodeReply → Type 0
TellsOrder held order Done = (e : EndedNode) × IsEnded held e × (order ≡ e.decision.order)
TellsOrder held order Misuse = (order ≡ 0) × (has_ended held ≡ false)
TellsOrder held order Memory = ⊥
TellsOrder held order Fault = ⊥
TellsOrder held order Length = ⊥

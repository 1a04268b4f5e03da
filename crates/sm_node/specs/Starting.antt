-- How keys for C are made, and nodes of them, and why a node isn't made.
use Rattle.std.specs.Prelude.{ℕ, ◌≡◌, ◌⊎◌, ◌+◌, ◌≤◌, ◌<◌, ◌==◌, ◌&&◌, ◌||◌, if◌then◌else◌, Bool, true, false, List}
use Rattle.std.specs.Prelude.{Option, Some, None, IsSome, Result, Ok, Err, nat_lt}
use Rattle.gen_types.specs.declared.heights.TreeHeight.{TreeHeight}
use Rattle.gen_types.specs.declared.heights.TreeHeight.TheVariants.{Four, Six}
use Rattle.gen_types.specs.declared.reading.ReadError.{ReadError}
use Rattle.gen_types.specs.declared.reading.ReadError.TheVariants as errors
use Rattle.gen_tree.specs.Rings.{ring_root}
use Rattle.gen_net.specs.Header.{RunHeader, slot_of}
use Rattle.gen_node.specs.declared.node_fault.NodeFault.{NodeFault}
use Rattle.gen_node.specs.declared.node_fault.NodeFault.TheVariants as faults
use Rattle.gen_node.specs.Node.{Node, IsRefused, MayBeNode, fresh_ring, node_at_start}
use Rattle.sm_node.specs.declared.faults.StartFault.{StartFault}
use Rattle.sm_node.specs.declared.faults.StartFault.TheVariants.{Header, NoGeneral, OtherRoot, OtherVersion, UsedSlot}
use Rattle.sm_node.specs.declared.held.NodeHandle.{NodeHandle}
use Rattle.sm_node.specs.declared.held.NodeHandle.TheVariants.{Keys}
use Rattle.sm_node.specs.declared.held.SlotKeys.{SlotKeys}
use Rattle.sm_node.specs.declared.told.NodeReply.{NodeReply}
use Rattle.sm_node.specs.declared.told.NodeReply.TheVariants.{Done, Misuse, Fault, Memory, Length}
use Rattle.sm_node.specs.Faults.{start_number}
use Rattle.sm_node.specs.Headers.{header_in}
use Rattle.sm_node.specs.NodeHandle.{IsRunning, has_keys}

-- ---- keys

-- the height of the trees of keys of a version: 4 in version 1, 6 in version 2; None for any other
abbrev pub height_numbered : ℕ → Option TreeHeight
height_numbered version = if version == 1 then Some Four else if version == 2 then Some Six else None

-- keys of which no node was made
abbrev pub fresh_keys : List ℕ → TreeHeight → SlotKeys
fresh_keys seed height = record { tree = record { seed = seed; height = height }; least = 0 }

-- the keys of a seed are held and nothing was before, and their root is written
abbrev pub MakesKeys :
    List ℕ → ℕ → Option NodeHandle → Option NodeHandle → List ℕ → List ℕ → NodeReply → Type 0
MakesKeys seed version old new root_old root Done =
    (old ≡ None) × ((height : TreeHeight) × (height_numbered version ≡ Some height)
    × (new ≡ Some (Keys (fresh_keys seed height))) × (root ≡ ring_root seed height))
MakesKeys seed version old new root_old root Misuse =
    (new ≡ old) × (root ≡ root_old) × ((height_numbered version ≡ None) ⊎ IsSome old)
MakesKeys seed version old new root_old root Memory =
    (new ≡ old) × (root ≡ root_old) × (old ≡ None)
    × ((height : TreeHeight) × (height_numbered version ≡ Some height))
MakesKeys seed version old new root_old root Fault = ⊥
MakesKeys seed version old new root_old root Length = ⊥

-- ---- nodes

-- the number for a general that has no order
abbrev pub no_order : ℕ
no_order = 255

-- these are a general's number (below 16), and an order's (below 16) or the number for no order
abbrev pub are_numbers : ℕ → ℕ → Bool
are_numbers general order = nat_lt general 16 && (nat_lt order 16 || order == no_order)

-- the order of this number; None for the number for no order
abbrev pub own_order : ℕ → Option ℕ
own_order order = if order == no_order then None else Some order

-- this is the node of a header's bytes, a general, its keys and its order; no node was made of the keys in
-- this slot or a later one
pub record IsStarted (bytes : List ℕ) (general : ℕ) (k : SlotKeys) (own : Option ℕ) (h : RunHeader)
    (n : Node) : Type 0 where
  pub header : header_in bytes ≡ Ok h
  pub slot : k.least ≤ slot_of h
  pub fits : MayBeNode h general own (fresh_ring k.tree)
  pub node : n ≡ node_at_start h general own (fresh_ring k.tree)

-- the keys after a node of this header was made of them
abbrev pub spent : RunHeader → SlotKeys → SlotKeys
spent h k = record { tree = k.tree; least = slot_of h + 1 }

-- the bytes are a header, in whose slot a node may still be made, but for this reason there is none
abbrev pub HasNoNode : List ℕ → ℕ → SlotKeys → Option ℕ → NodeFault → Type 0
HasNoNode bytes general k own why =
    (h : RunHeader) × (header_in bytes ≡ Ok h) × (k.least ≤ slot_of h)
    × IsRefused h general own (fresh_ring k.tree) why

-- this fault is why there is no node: it is the first fault that holds
abbrev pub IsStartFault : List ℕ → ℕ → SlotKeys → Option ℕ → StartFault → Type 0
IsStartFault bytes general k own (Header f) = header_in bytes ≡ Err f
IsStartFault bytes general k own UsedSlot =
    (h : RunHeader) × (header_in bytes ≡ Ok h) × (slot_of h < k.least)
IsStartFault bytes general k own OtherVersion = HasNoNode bytes general k own faults.OtherHeight
IsStartFault bytes general k own NoGeneral = HasNoNode bytes general k own faults.NoGeneral
IsStartFault bytes general k own OtherRoot = HasNoNode bytes general k own faults.OtherRoot

-- the answer is the node, and its slot is used; or it is why there is none, unless memory was refused
abbrev pub StartsNode :
    List ℕ → ℕ → SlotKeys → Option ℕ → SlotKeys → Result Node (ReadError StartFault) → Type 0
StartsNode bytes general k own left (Ok n) =
    (h : RunHeader) × IsStarted bytes general k own h n × (left ≡ spent h k)
StartsNode bytes general k own left (Err errors.Memory) = left ≡ k
StartsNode bytes general k own left (Err (errors.Fault f)) =
    (left ≡ k) × IsStartFault bytes general k own f

-- a node is made of the keys that are held, and its slot is used; or the number of a fault is told
abbrev pub StartsOf : List ℕ → ℕ → Option ℕ → Option NodeHandle → Option NodeHandle → Option NodeHandle
    → Option NodeHandle → ℕ → NodeReply → Type 0
StartsOf bytes general own keys left old new fault Done =
    (fault ≡ 0) × ((k : SlotKeys) × (h : RunHeader) × (n : Node) × (keys ≡ Some (Keys k))
    × (left ≡ Some (Keys (spent h k))) × IsRunning new n × IsStarted bytes general k own h n)
StartsOf bytes general own keys left old new fault Misuse =
    (fault ≡ 0) × (left ≡ keys) × (new ≡ old) × (has_keys keys ≡ false)
StartsOf bytes general own keys left old new fault Fault =
    (left ≡ keys) × (new ≡ old) × ((k : SlotKeys) × (f : StartFault) × (keys ≡ Some (Keys k))
    × IsStartFault bytes general k own f × (fault ≡ start_number f))
StartsOf bytes general own keys left old new fault Memory =
    (fault ≡ 0) × (left ≡ keys) × (new ≡ old) × (has_keys keys ≡ true)
StartsOf bytes general own keys left old new fault Length = ⊥

-- the call may be made: nothing is held, and the numbers are a general's and an order's or the number for no
-- order
abbrev pub MayStart : ℕ → ℕ → Option NodeHandle → Type 0
MayStart general order old = (old ≡ None) × (are_numbers general order ≡ true)

-- the call may not be made, and nothing was changed
abbrev pub IsNoStart : ℕ → ℕ → Option NodeHandle → Option NodeHandle → Option NodeHandle → Option NodeHandle
    → ℕ → NodeReply → Type 0
IsNoStart general order keys left old new fault told =
    (told ≡ Misuse) × (fault ≡ 0) × (left ≡ keys) × (new ≡ old)
    × ((are_numbers general order ≡ false) ⊎ IsSome old)

-- a node is held that was made of the keys, and nothing was before, or the number of a fault is told
abbrev pub Starts : List ℕ → ℕ → ℕ → Option NodeHandle → Option NodeHandle → Option NodeHandle
    → Option NodeHandle → ℕ → NodeReply → Type 0
Starts bytes general order keys left old new fault told =
    IsNoStart general order keys left old new fault told
    ⊎ (MayStart general order old
    × StartsOf bytes general (own_order order) keys left old new fault told)

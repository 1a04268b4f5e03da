-- What the memory of a node for C holds.
use Rattle.std.specs.Prelude.{◌≡◌, Bool, true, false, Option, Some, None}
use Rattle.gen_node.specs.Node.{Node}
use Rattle.sm_node.specs.declared.held.NodeHandle.{NodeHandle}
use Rattle.sm_node.specs.declared.held.NodeHandle.TheVariants.{Empty, Keys, Running, Ended}

-- the node that has not ended, if there is one
abbrev pub running : NodeHandle → Option Node
running Empty = None
running (Keys k) = None
running (Running n) = Some n
running (Ended e) = None

-- there is a node that has not ended, and it passes the test
abbrev pub allows : (Node → Bool) → Option NodeHandle → Bool
allows may None = false
allows may (Some Empty) = false
allows may (Some (Keys k)) = false
allows may (Some (Running n)) = may n
allows may (Some (Ended e)) = false

-- there are keys
abbrev pub has_keys : Option NodeHandle → Bool
has_keys None = false
has_keys (Some Empty) = false
has_keys (Some (Keys k)) = true
has_keys (Some (Running n)) = false
has_keys (Some (Ended e)) = false

-- there is a node that has ended
abbrev pub has_ended : Option NodeHandle → Bool
has_ended None = false
has_ended (Some Empty) = false
has_ended (Some (Keys k)) = false
has_ended (Some (Running n)) = false
has_ended (Some (Ended e)) = true

-- there is a node that has not ended, and it is this one
abbrev pub IsRunning : Option NodeHandle → Node → Type 0
IsRunning held n = held ≡ Some (Running n)

-- a node that has not ended was there before, and one is there after, and this relation holds between the two
abbrev pub Becomes : (Node → Node → Type 0) → Option NodeHandle → Option NodeHandle → Type 0
Becomes Follows old new = (n : Node) × (m : Node) × IsRunning old n × IsRunning new m × Follows n m

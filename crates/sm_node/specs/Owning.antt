-- What the one pointer of a node for C owns.
use Rattle.std.specs.Prelude.{◌≡◌, Option, Some, None}
use Rattle.std.specs.Box.Ownership.{box_owns}
use base.Fml.{Fml, ftrue, fex}
use denote.RawPtr.{Ptr, null_ptr}
use Rattle.std.specs.declared.alloc.Global.{Global}
use Rattle.std.specs.contracts.impls.GlobalAllocator.TheImpl.{ghosts}
use Rattle.sm_node.specs.declared.held.NodeHandle.{NodeHandle}
use Rattle.sm_node.specs.contracts.held.NodeHandle.{the_row}

-- the pointer is null and owns nothing, if nothing is held; otherwise it owns the box of what is held, which
-- any handle of the heap frees
abbrev pub node_owns : Ptr → Option NodeHandle → Fml
node_owns p None = fex (p ≡ null_ptr) (λ _. ftrue)
node_owns p (Some held) = fex Global (λ alloc. box_owns (ghosts.dealloc_token alloc) the_row p held)

-- A frame of few parcels, each of them short, has a spelling.
use Rattle.std.proofs.Common.{◌<◌, ◌^◌, ℕ, List, length, All}
use Rattle.std.proofs.lemmas.List.Elements.{recursion_from_All}
use Rattle.gen_node.specs.declared.frames.FrameFront.{FrameFront}
use Rattle.gen_node.specs.Frame.{IsFrame, IsFront, IsParcel}

pub is_frame : (front : FrameFront) (parcels : List (List ℕ)) → IsFront front → length parcels < 2 ^ 16 → All IsParcel parcels → IsFrame (record { front = front; parcels = parcels })
is_frame front parcels fits few short = record { front = fits; few = few; short = recursion_from_All IsParcel parcels short }

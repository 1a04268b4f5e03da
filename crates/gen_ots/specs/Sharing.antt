-- Bytes, of one owner or shared.
use Rattle.std.specs.Prelude.{ℕ, List}
use Rattle.std.specs.Arc.{arc_slice_items}
use Rattle.gen_ots.specs.declared.sharing.HeldBytes.{HeldBytes}
use Rattle.gen_ots.specs.declared.sharing.HeldBytes.TheVariants.{Owned, Shared}

-- the bytes that are held, whether they have one owner or several
abbrev pub bytes_of : HeldBytes → List ℕ
bytes_of (Owned bytes) = bytes.items
bytes_of (Shared bytes) = arc_slice_items bytes

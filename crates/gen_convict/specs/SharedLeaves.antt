-- Tests whether two runs use the same leaves.
use Rattle.std.specs.Prelude.{Bool, true, false, ◌&&◌, ◌==◌, not}
use Rattle.gen_net.specs.declared.version.Version.{Version}
use Rattle.gen_net.specs.declared.version.Version.TheVariants.{One, Two}
use Rattle.gen_net.specs.Header.{RunHeader}
use Rattle.gen_net.specs.SameHeaders.{same_roots, same_header}

-- the version is version 2
abbrev pub is_two : Version → Bool
is_two One = false
is_two (Two slot) = true

-- both are of version 2 and of one slot
abbrev pub is_one_slot : Version → Version → Bool
is_one_slot (Two a) (Two b) = a == b
is_one_slot (Two a) One = false
is_one_slot One v = false

-- both have version 2 and one slot, as many generals and the same roots, and the headers differ
unfoldable pub share_leaves : RunHeader → RunHeader → Bool
share_leaves h k =
    is_one_slot h.version k.version
    && (h.network.generals == k.network.generals && (same_roots h.roots k.roots && not (same_header h k)))

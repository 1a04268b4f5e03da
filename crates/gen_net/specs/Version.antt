-- Versions of headers: the height of their trees of keys, the slot, and how they are spelled.
use Rattle.std.specs.Prelude.{ℕ, List, [], ◌∷◌}
use Rattle.gen_types.specs.declared.heights.TreeHeight.{TreeHeight}
use Rattle.gen_types.specs.declared.heights.TreeHeight.TheVariants.{Four, Six}
use Rattle.gen_net.specs.declared.version.Version.{Version}
use Rattle.gen_net.specs.declared.version.Version.TheVariants.{One, Two}

-- the height of the trees of keys: a tree of 4 levels serves one run; one of 6 levels serves four, in slots 0
-- to 3
abbrev pub height_in : Version → TreeHeight
height_in One = Four
height_in (Two slot) = Six

-- the slot of the run, which is 0 in version 1
abbrev pub slot_in : Version → ℕ
slot_in One = 0
slot_in (Two slot) = slot

-- the greatest slot
abbrev pub greatest_slot : ℕ
greatest_slot = 3

-- the first byte of a header of version 1
abbrev pub version_one : ℕ
version_one = 1

-- the first byte of a header of version 2
abbrev pub version_two : ℕ
version_two = 2

-- the first bytes of a header: the number of its version, and in version 2 the slot
abbrev pub version_bytes : Version → List ℕ
version_bytes One = version_one ∷ []
version_bytes (Two slot) = version_two ∷ slot ∷ []

-- Trees of keys by their height: how many levels are between a leaf and the root, and how many leaves a tree
-- has.
use Rattle.std.specs.Prelude.{ℕ}
use Rattle.gen_types.specs.declared.heights.TreeHeight.{TreeHeight}
use Rattle.gen_types.specs.declared.heights.TreeHeight.TheVariants.{Four, Six}

-- the number of levels between a leaf and the root, which is the number of siblings of a signature
abbrev pub levels_of : TreeHeight → ℕ
levels_of Four = 4
levels_of Six = 6

-- the number of leaves of a tree: two to the power of its height
abbrev pub leaves_of : TreeHeight → ℕ
leaves_of Four = 16
leaves_of Six = 64

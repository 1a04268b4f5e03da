-- Signatures under a root, as lists of bytes.
use Rattle.std.specs.Prelude.{ℕ, ◌≡◌, ◌<◌, List, ◌++◌, take, drop, length}
use Rattle.gen_types.specs.declared.heights.TreeHeight.{TreeHeight}
use Rattle.gen_types.specs.Heights.{levels_of, leaves_of}
use Rattle.gen_ots.specs.Sizes.{ots_length}
use Rattle.gen_ots.specs.Secrets.{KeyName}
use Rattle.gen_ots.specs.Signatures.{signature_of, signed_leaf_value}
use Rattle.gen_tree.specs.Rings.{ring_siblings}
use Rattle.gen_tree.specs.Sizes.{signature_length}
use Rattle.gen_tree.specs.Tree.{folded}

-- the signature of a digest by a key of a ring: the one-time signature, and then the siblings
unfoldable pub tree_signature : KeyName → List ℕ → List ℕ
tree_signature k digest = signature_of k digest ++ ring_siblings k

-- the root over a leaf value and its siblings on all levels of a tree
abbrev pub root_over : List ℕ → TreeHeight → ℕ → List ℕ → List ℕ
root_over value height leaf siblings = folded value leaf siblings (levels_of height)

-- the root that a signature of a digest by a leaf stands for: its first bytes are a one-time
-- signature, and the others are the siblings
abbrev pub implied_root : TreeHeight → ℕ → List ℕ → List ℕ → List ℕ
implied_root height leaf digest signature =
    root_over (signed_leaf_value (take ots_length signature) digest) height leaf
    (drop ots_length signature)

-- A signature of a digest by a leaf stands under the root of a tree of this height. It has one sibling for
-- each level, the tree has the leaf, and the siblings lead to the root.
pub record Verifies (root : List ℕ) (height : TreeHeight) (leaf : ℕ)
    (digest signature : List ℕ) : Type 0 where
  pub one_each : length signature ≡ signature_length height
  pub below : leaf < leaves_of height
  pub leads : implied_root height leaf digest signature ≡ root

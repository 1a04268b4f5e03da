-- Rings of one-time keys, each of which is a leaf of one tree.
use Rattle.std.specs.Prelude.{ℕ, zero, suc, List, [], ◌∷◌, ◌++◌}
use Rattle.sha2.specs.Sha256.{sha256}
use Rattle.gen_types.specs.declared.heights.TreeHeight.{TreeHeight}
use Rattle.gen_types.specs.Heights.{levels_of, leaves_of}
use Rattle.gen_ots.specs.Secrets.{KeyName}
use Rattle.gen_ots.specs.OneTime.{key_leaf_value}
use Rattle.gen_tree.specs.Tree.{node_over, first_siblings}

-- what a contract sees of a tree of keys: its seed and its height
pub record KeyTree : Type 0 where
  pub seed : List ℕ
  pub height : TreeHeight

-- what a contract sees of a ring: its seed, the height of its tree, and the ascending list of the leaves
-- that were taken
pub record Ring : Type 0 where
  pub seed : List ℕ
  pub height : TreeHeight
  pub taken : List ℕ

-- the first byte of the text whose hash is a general's seed: hexadecimal 30
abbrev pub seed_prefix : ℕ
seed_prefix = 48

-- the seed of a general: the hash of the prefix, the master seed and the general's number
abbrev pub seed_of : List ℕ → ℕ → List ℕ
seed_of master general = sha256 (seed_prefix ∷ (master ++ general ∷ []))

-- the leaf values of the first n leaves of a seed's tree
unfoldable pub leaf_values : List ℕ → TreeHeight → ℕ → List (List ℕ)
leaf_values seed height zero = []
leaf_values seed height (suc n) =
    leaf_values seed height n
    ++ key_leaf_value (record { seed = seed; height = height; leaf = n }) ∷ []

-- the leaf values of a ring
abbrev pub ring_leaves : List ℕ → TreeHeight → List (List ℕ)
ring_leaves seed height = leaf_values seed height (leaves_of height)

-- the root of a ring: the one node at the top level
unfoldable pub ring_root : List ℕ → TreeHeight → List ℕ
ring_root seed height = node_over (ring_leaves seed height) (levels_of height) 0

-- all siblings of a key's leaf, from the bottom up
abbrev pub ring_siblings : KeyName → List ℕ
ring_siblings k = first_siblings (ring_leaves k.seed k.height) k.leaf (levels_of k.height)

-- Two openings of one set to two roots, and the two texts with one hash that they lead to.
use Rattle.std.specs.Prelude.{ℕ, ◌≡◌, ◌≢◌, ◌<◌, ◌≤◌, ◌⊎◌, ◌/◌, ◌^◌, List, [], length, take, slice_index_or}
use Rattle.gen_ots.specs.Colliding.{AreColliding}
use Rattle.gen_identity.specs.declared.colliding.Collision.{Collision}
use Rattle.gen_identity.specs.declared.colliding.Collision.TheVariants.{OfLeaves, OfNodes}
use Rattle.gen_identity.specs.Openings.{folded, parent_text}
use Rattle.gen_identity.specs.Tree.{leaf_text, set_leaf}

-- the two texts of a collision
abbrev pub first_text : Collision → List ℕ
first_text (OfLeaves a b) = a
first_text (OfNodes a b) = a

abbrev pub second_text : Collision → List ℕ
second_text (OfLeaves a b) = b
second_text (OfNodes a b) = b

-- ---- which texts they are

-- a root of the set with this index, and the siblings of its leaf from the bottom up
pub record Way : Type 0 where
  pub index : ℕ
  pub root : List ℕ
  pub siblings : List (List ℕ)

-- the node at a level of the way from the leaf up: the leaf with as many of the siblings as the level says
abbrev pub node_at : Way → ℕ → List ℕ
node_at way level = folded (set_leaf way.root) way.index (take level way.siblings)

-- the text of the node above that one: it and its sibling, each on its side
abbrev pub text_above : Way → ℕ → List ℕ
text_above way level =
    parent_text (node_at way level) (slice_index_or way.siblings level []) (way.index / 2 ^ level)

-- a and b are the texts of the leaves with which two ways begin
pub record AreLeafTexts (way other : Way) (a b : List ℕ) : Type 0 where
  pub first : a ≡ leaf_text way.root
  pub second : b ≡ leaf_text other.root

-- a and b are the texts of the nodes above the nodes at this level of two ways, which have no node in common
-- up to this level
pub record AreNodeTexts (way other : Way) (level : ℕ) (a b : List ℕ) : Type 0 where
  pub inside : level < length way.siblings
  pub inside_other : level < length other.siblings
  pub first : a ≡ text_above way level
  pub second : b ≡ text_above other level
  pub apart : (below : ℕ) → below ≤ level → node_at way below ≢ node_at other below

-- The texts are those that two ways hash where they first meet: the texts of their leaves, or those of the
-- nodes above two nodes at one level. They differ and have one hash.
pub record AreMeetingTexts (way other : Way) (a b : List ℕ) : Type 0 where
  pub texts : AreLeafTexts way other a b ⊎ ((level : ℕ) × AreNodeTexts way other level a b)
  pub colliding : AreColliding a b

-- the way of an opening of a set to a root
abbrev pub way_of : ℕ → List ℕ → List (List ℕ) → Way
way_of index root siblings = record { index = index; root = root; siblings = siblings }

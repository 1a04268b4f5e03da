-- What values give away that stand for a public key and that its holder did not show: a value before one
-- that the holder showed, or two texts with one hash.
use Rattle.std.specs.Prelude.{ℕ, ◌≡◌, ◌<◌, ◌-◌, ◌⊎◌, List, ◌++◌}
use Rattle.gen_ots.specs.Colliding.{AreColliding}
use Rattle.gen_lmots.specs.declared.places.KeyPlace.{KeyPlace}
use Rattle.gen_lmots.specs.Chains.{chained}
use Rattle.gen_lmots.specs.Coefficients.{steps_signed}
use Rattle.gen_lmots.specs.Keys.{ends, secret}
use Rattle.gen_lmots.specs.Signatures.{led_ends, value_at}
use Rattle.gen_lmots.specs.Strings.{chain_count, d_pblc, front, u8str, u16str, u32str}
use Rattle.gen_lms.specs.Tree.{d_intr, d_leaf}

-- the text that is hashed in a step of chain i
abbrev pub step_text : KeyPlace → ℕ → ℕ → List ℕ → List ℕ
step_text place i j value = front place ++ (u16str i ++ (u8str j ++ value))

-- the text that is hashed to a public key
abbrev pub key_text : KeyPlace → List ℕ → List ℕ
key_text place ends = front place ++ (u16str d_pblc ++ ends)

-- In chain i another hash takes fewer steps than the hash that the holder signed, and the value that stands
-- for it leads to the one that the holder showed. So someone else found a value that the holder kept, or one
-- like it.
pub record IsBefore (seed : List ℕ) (place : KeyPlace) (signed hash values : List ℕ) (i : ℕ) : Type 0 where
  pub inside : i < chain_count
  pub fewer : steps_signed hash i < steps_signed signed i
  pub leads :
      chained place i (steps_signed hash i) (steps_signed signed i - steps_signed hash i) (value_at values i)
      ≡ chained place i 0 (steps_signed signed i) (secret seed place i)

-- Two different values of a chain have one hash in one step.
abbrev pub StepsCollide : KeyPlace → Type 0
StepsCollide place =
    (i : ℕ) × (j : ℕ) × (u : List ℕ) × (v : List ℕ)
    × AreColliding (step_text place i j u) (step_text place i j v)

-- What values of a hash give away of the key of a seed, whose holder signed another hash.
abbrev pub GivesAway : List ℕ → KeyPlace → List ℕ → List ℕ → List ℕ → Type 0
GivesAway seed place signed hash values =
    ((i : ℕ) × IsBefore seed place signed hash values i)
    ⊎ (StepsCollide place
    ⊎ AreColliding (key_text place (led_ends place hash values chain_count))
    (key_text place (ends seed place chain_count)))

-- ---- two one-time public keys under one root

-- the text that is hashed to the node with the number r, and to the leaf with this number
abbrev pub node_text : List ℕ → ℕ → List ℕ → List ℕ → List ℕ
node_text identifier r left right = identifier ++ (u32str r ++ (u16str d_intr ++ (left ++ right)))

abbrev pub leaf_text : List ℕ → ℕ → List ℕ → List ℕ
leaf_text identifier r key = identifier ++ (u32str r ++ (u16str d_leaf ++ key))

-- Two different texts of one node, or of one leaf, have one hash.
abbrev pub NodesCollide : List ℕ → Type 0
NodesCollide identifier =
    ((r : ℕ) × (a : List ℕ) × (b : List ℕ) × (c : List ℕ) × (d : List ℕ)
    × AreColliding (node_text identifier r a b) (node_text identifier r c d))
    ⊎ ((r : ℕ) × (key : List ℕ) × (other : List ℕ)
    × AreColliding (leaf_text identifier r key) (leaf_text identifier r other))

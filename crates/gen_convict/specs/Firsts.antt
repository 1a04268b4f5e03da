-- The first member of a list with a property, and its first pair that is related.
use Rattle.std.specs.Prelude.{◌≡◌, List, ◌∷◌, ◌++◌, Contains}

-- x is the first member of the list with the property
pub record IsFirst {X : Type 0} (P : X → Type 0) (xs : List X) (x : X) : Type 0 where
  pub before : List X
  pub after : List X
  pub split : xs ≡ before ++ x ∷ after
  pub holds : P x
  pub none_before : (z : X) → Contains before z → P z → ⊥

-- x and y, with x before y, are the first related pair of the list: no related pair begins before x, and none
-- that begins at x ends before y
pub record IsFirstPair {X : Type 0} (R : X → X → Type 0) (xs : List X) (x y : X) : Type 0 where
  pub before : List X
  pub between : List X
  pub after : List X
  pub split : xs ≡ before ++ x ∷ (between ++ y ∷ after)
  pub holds : R x y
  pub none_before : (front back : List X) (u v : X) → before ≡ front ++ u ∷ back
      → Contains (back ++ x ∷ (between ++ y ∷ after)) v → R u v → ⊥
  pub none_between : (v : X) → Contains between v → R x v → ⊥

-- Two lists side by side, and a write at one index of the second.
use Rattle.std.proofs.Common.{◌<◌, List, [], ◌∷◌, ◌++◌, length, slice_index_or, slice_set, Contains, arith}
use Rattle.std.specs.List.{AllZip}
use Rattle.gen_types.specs.Members.{Contains_here, Contains_there}

module _ {A B : Type 0} where
  -- what holds side by side holds so of whatever follows from it
  pub zip_weaker : (R S : A → B → Type 0) (xs : List A) (ys : List B) → ((x : A) (y : B) → Contains xs x → R x y → S x y) → AllZip R xs ys → AllZip S xs ys
  zip_weaker R S [] [] f h = tt
  zip_weaker R S [] (y ∷ ys) f h = absurd h
  zip_weaker R S (x ∷ xs) [] f h = absurd h
  zip_weaker R S (x ∷ xs) (y ∷ ys) f h = (f x y (Contains_here x xs) h.0, zip_weaker R S xs ys (λ a b c r. f a b (Contains_there x a xs c) r) h.1)

  pub zip_some : (R : A → B → Type 0) (front : List A) (x : A) (back : List A) (ys : List B) → AllZip R (front ++ x ∷ back) ys → (y : B) × R x y
  zip_some R [] x back [] h = absurd h
  zip_some R [] x back (y ∷ ys) h = (y, h.0)
  zip_some R (a ∷ front) x back [] h = absurd h
  zip_some R (a ∷ front) x back (y ∷ ys) h = zip_some R front x back ys h.1

  pub zip_inside : (R : A → B → Type 0) (front : List A) (x : A) (back : List A) (ys : List B) → AllZip R (front ++ x ∷ back) ys → length front < length ys
  zip_inside R [] x back [] h = absurd h
  zip_inside R [] x back (y ∷ ys) h = omega arith
  zip_inside R (a ∷ front) x back [] h = absurd h
  zip_inside R (a ∷ front) x back (y ∷ ys) h = let r = zip_inside R front x back ys h.1 in omega (arith, r)

  pub zip_at : (R : A → B → Type 0) (front : List A) (x : A) (back : List A) (ys : List B) (d : B) → AllZip R (front ++ x ∷ back) ys → R x (slice_index_or ys (length front) d)
  zip_at R [] x back [] d h = absurd h
  zip_at R [] x back (y ∷ ys) d h = h.0
  zip_at R (a ∷ front) x back [] d h = absurd h
  zip_at R (a ∷ front) x back (y ∷ ys) d h = zip_at R front x back ys d h.1

  pub zip_set : (R S : A → B → Type 0) (front : List A) (x : A) (back : List A) (ys : List B) (y : B) → ((a : A) (b : B) → Contains front a → R a b → S a b) → S x y → ((a : A) (b : B) → Contains back a → R a b → S a b)
      → AllZip R (front ++ x ∷ back) ys → AllZip S (front ++ x ∷ back) (slice_set ys (length front) y)
  zip_set R S [] x back [] z f one g h = absurd h
  zip_set R S [] x back (y ∷ ys) z f one g h = (one, zip_weaker R S back ys g h.1)
  zip_set R S (a ∷ front) x back [] z f one g h = absurd h
  zip_set R S (a ∷ front) x back (y ∷ ys) z f one g h =
      (f a y (Contains_here a front) h.0, zip_set R S front x back ys z (λ b c m r. f b c (Contains_there a b front m) r) one g h.1)

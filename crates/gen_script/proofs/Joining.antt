-- Whom an edge joins to a general, as a test on the list of edges.
use Rattle.std.proofs.Common.{◌≡◌, ℕ, ◌<◌, ◌≤◌, ◌⊎◌, inl, inr, Bool, true, false, ◌&&◌, ◌||◌, eqb, List, [], ◌∷◌, Contains, Result, refl, sym, subst, arith}
use Rattle.std.specs.List.{list_any}
use Rattle.std.proofs.lemmas.Bool.{eqb-true, eq-eqb}
use Rattle.gen_types.specs.declared.reading.ReadError.{ReadError}
use Rattle.gen_types.specs.declared.reading.ReadError.TheVariants as errors
use Rattle.gen_types.specs.Reading.{◌>>=◌, Fails}
use Rattle.gen_types.proofs.Decimals.{both}
use Rattle.gen_types.proofs.Lists.{Contains_here, Contains_there, Contains_cases, Contains_nil, bool_cases}
use Rattle.gen_net.specs.Network.{Network, AreNeighbours, IsNetwork}
use Rattle.gen_net.specs.Edges.{joins}

pub either : (a b : Bool) → (a || b) ≡ true → (a ≡ true) ⊎ (b ≡ true)
either true b e = inl refl
either false b e = inr e

pub left_true : (a b : Bool) → a ≡ true → (a || b) ≡ true
left_true true b e = refl
left_true false b e = absurd cc

pub right_true : (a b : Bool) → b ≡ true → (a || b) ≡ true
right_true true b e = refl
right_true false b e = e

pair_is : (e : ℕ × ℕ) (a b : ℕ) → eqb e.0 a ≡ true → eqb e.1 b ≡ true → e ≡ (a, b)
pair_is (x, y) a b p q =
    let first : x ≡ a = eqb-true x a p in
    let second : y ≡ b = eqb-true y b q in
    cc

-- the edge is one of a and b
joined_means : (a b : ℕ) (e : ℕ × ℕ) → joins a b e ≡ true → (e ≡ (a, b)) ⊎ (e ≡ (b, a))
joined_means a b e h =
    elim (either (eqb e.0 a && eqb e.1 b) (eqb e.0 b && eqb e.1 a) h) [
      | inl l ↦ let m = both (eqb e.0 a) (eqb e.1 b) l in inl (pair_is e a b m.0 m.1)
      | inr r ↦ let m = both (eqb e.0 b) (eqb e.1 a) r in inr (pair_is e b a m.0 m.1)
    ]

joins_forth : (a b : ℕ) → joins a b (a, b) ≡ true
joins_forth a b = rw (eq-eqb a a refl, eq-eqb b b refl) refl

joins_back : (a b : ℕ) → joins a b (b, a) ≡ true
joins_back a b = right_true (eqb b a && eqb a b) (eqb b b && eqb a a) (rw (eq-eqb a a refl, eq-eqb b b refl) refl)

abbrev pub AreJoined : List (ℕ × ℕ) → ℕ → ℕ → Type 0
AreJoined edges a b = Contains edges (a, b) ⊎ Contains edges (b, a)

pub joined_found : (a b : ℕ) (edges : List (ℕ × ℕ)) → list_any (joins a b) edges ≡ true → AreJoined edges a b
joined_found a b [] h = absurd cc
joined_found a b (e ∷ edges) h =
    elim (either (joins a b e) (list_any (joins a b) edges) h) [
      | inl here ↦ (elim (joined_means a b e here) [
        | inl is ↦ inl (subst (λ z. Contains (e ∷ edges) z) is (Contains_here e edges))
        | inr is ↦ inr (subst (λ z. Contains (e ∷ edges) z) is (Contains_here e edges))
      ])
      | inr there ↦ (elim (joined_found a b edges there) [
        | inl k ↦ inl (Contains_there e (a, b) edges k)
        | inr k ↦ inr (Contains_there e (b, a) edges k)
      ])
    ]

any_of : {X : Type 0} (p : X → Bool) (xs : List X) (x : X) → Contains xs x → p x ≡ true → list_any p xs ≡ true
any_of p [] x h e = absurd (Contains_nil x h)
any_of p (y ∷ xs) x h e =
    elim (Contains_cases y x xs h) [
      | inl is ↦ left_true (p y) (list_any p xs) (subst (λ z. p z ≡ true) (sym is) e)
      | inr k ↦ right_true (p y) (list_any p xs) (any_of p xs x k e)
    ]

pub joined_again : (a b : ℕ) (edges : List (ℕ × ℕ)) → AreJoined edges a b → list_any (joins a b) edges ≡ true
joined_again a b edges (inl h) = any_of (joins a b) edges (a, b) h (joins_forth a b)
joined_again a b edges (inr h) = any_of (joins a b) edges (b, a) h (joins_back a b)

-- generals whom an edge joins are below n
pub joined_below : (net : Network) → IsNetwork net → (a b : ℕ) → AreNeighbours net a b → (a < net.generals) × (b < net.generals)
joined_below net ok a b (inl h) = let r = ok.edges.inside a b h in (omega (arith, r.0, r.1), r.1)
joined_below net ok a b (inr h) = let r = ok.edges.inside b a h in (r.1, omega (arith, r.0, r.1))

pub far_off : (net : Network) → IsNetwork net → (a b : ℕ) → net.generals ≤ b → list_any (joins a b) net.edges ≡ false
far_off net ok a b le =
    elim (bool_cases (list_any (joins a b) net.edges)) [
      | inl near ↦ let r = joined_below net ok a b (joined_found a b net.edges near) in absurd (omega (arith, r.1))
      | inr far ↦ far
    ]

-- a test that tells whether they are neighbours is that of the edges
pub told : (net : Network) (a b : ℕ) (t : Bool) → ((t ≡ true) → AreNeighbours net a b) → (AreNeighbours net a b → t ≡ true) → list_any (joins a b) net.edges ≡ t
told net a b t yes_then then_yes =
    elim (bool_cases t) [
      | inl e ↦ rw e (joined_again a b net.edges (yes_then e))
      | inr e ↦ (elim (bool_cases (list_any (joins a b) net.edges)) [
        | inl near ↦ let both_ways : t ≡ true = then_yes (joined_found a b net.edges near) in absurd cc
        | inr far ↦ rw e far
      ])
    ]

-- a step that fails, and the steps after it
pub fails_after : {A B F : Type 0} (e : ReadError F) (r : Result A F) (f : A → Result B F) → Fails e r → Fails e (r >>= f)
fails_after errors.Memory r f h = tt
fails_after (errors.Fault d) r f h = rw h refl

-- A walk that comes to a general twice has a shorter one.
use Rattle.std.proofs.Common.{◌≢◌, ℕ, zero, suc, ◌<◌, ◌≤◌, inl, inr, List, [], ◌∷◌, ◌++◌, length, AllPairs, Contains, refl, sym, subst, arith}
use Rattle.std.specs.List.{range_with_len}
use Rattle.std.proofs.lemmas.List.Elements.{All-contains_itself, All-weaker}
use Rattle.std.proofs.lemmas.List.FromFn.{length-range_with_len}
use Rattle.std.proofs.lemmas.List.Kept.{AllPairs-cons}
use Rattle.gen_net.specs.Network.{Network, AreNeighbours, IsLoyal, IsNetwork}
use Rattle.gen_net.specs.Walks.{IsWalk}
use Rattle.gen_types.proofs.Lists.{Contains_cases, Contains_nil, Contains_in_range, AllPairs_tail, decide_contains, split, length-le_from_distinct}
use Rattle.gen_plan.specs.Plans.{IsJoinedBy, Withstands}

-- the generals of a walk of the rest, from the first to b
pub data Trail (net : Network) (faulty : List ℕ) (b : ℕ) : List ℕ → Type 0 where
  arrived : Trail net faulty b (b ∷ [])
  onward : (a c : ℕ) (more : List ℕ) → AreNeighbours net a c → IsLoyal net faulty c → Trail net faulty b (c ∷ more) → Trail net faulty b (a ∷ c ∷ more)

-- the end of a trail is one
end_of : (net : Network) (faulty : List ℕ) (b a : ℕ) (front back : List ℕ) → Trail net faulty b (front ++ a ∷ back) → Trail net faulty b (a ∷ back)
end_of net faulty b a [] back t = t
end_of net faulty b a (x ∷ []) back (onward y c more near loyal t) = t
end_of net faulty b a (x ∷ z ∷ front) back (onward y c more near loyal t) = end_of net faulty b a (z ∷ front) back t

distinct_end : (front back : List ℕ) → AllPairs (λ x y. x ≢ y) (front ++ back) → AllPairs (λ x y. x ≢ y) back
distinct_end [] back apart = apart
distinct_end (x ∷ front) back apart = distinct_end front back (AllPairs_tail (λ x y. x ≢ y) x (front ++ back) apart)

fresh : (a : ℕ) (xs : List ℕ) → (Contains xs a → ⊥) → AllPairs (λ x y. x ≢ y) xs → AllPairs (λ x y. x ≢ y) (a ∷ xs)
fresh a xs none apart = AllPairs-cons (λ x y. x ≢ y) a xs (All-weaker (λ y. Contains xs y) (λ y. a ≢ y) (λ y h e. none (subst (λ z. Contains xs z) (sym e) h)) xs (All-contains_itself xs)) apart

-- a trail on which each general stands once
Simple : Network → List ℕ → ℕ → ℕ → Type 0
Simple net faulty a b = (more : List ℕ) × Trail net faulty b (a ∷ more) × AllPairs (λ x y. x ≢ y) (a ∷ more)

simple : (net : Network) (faulty : List ℕ) (edges a b : ℕ) → IsWalk net faulty edges a b → Simple net faulty a b
unfolding Simple
simple net faulty zero a b w =
    subst (λ x. (more : List ℕ) × Trail net faulty x (a ∷ more) × AllPairs (λ x y. x ≢ y) (a ∷ more)) w ([], arrived, λ i j d l m. absurd (omega (arith, l, m)))
simple net faulty (suc edges) a b (c, near, loyal, w) = on (simple net faulty edges c b w)
  where
    on : Simple net faulty c b → Simple net faulty a b
    on (more, t, apart) = elim (decide_contains (c ∷ more) a) [
      | inl member ↦
          let s = split (c ∷ more) a member in
          (s.1, end_of net faulty b a s.0 s.1 (subst (Trail net faulty b) s.2 t), distinct_end s.0 (a ∷ s.1) (subst (AllPairs (λ x y. x ≢ y)) s.2 apart))
      | inr none ↦ (c ∷ more, onward a c more near loyal t, fresh a (c ∷ more) none apart)
    ]

-- the generals of a trail are below 16
below : (net : Network) (faulty : List ℕ) (b a : ℕ) (more : List ℕ) → net.generals ≤ 16 → a < 16 → Trail net faulty b (a ∷ more) → (x : ℕ) → Contains (a ∷ more) x → x < 16
below net faulty b a more few low arrived x h = elim (Contains_cases a x [] h) [
  | inl e ↦ omega (arith, e, low)
  | inr there ↦ absurd (Contains_nil x there)
]
below net faulty b a more few low (onward a' c rest near loyal t) x h = elim (Contains_cases a x (c ∷ rest) h) [
  | inl e ↦ omega (arith, e, low)
  | inr there ↦ below net faulty b c rest few (omega (arith, few, loyal.0)) t x there
]

walk_of : (net : Network) (faulty : List ℕ) (b a : ℕ) (more : List ℕ) → Trail net faulty b (a ∷ more) → IsWalk net faulty (length more) a b
walk_of net faulty b a more arrived = refl
walk_of net faulty b a more (onward a' c rest near loyal t) = (c, near, loyal, walk_of net faulty b c rest t)

-- who is joined by any number of edges is joined by at most 15
pub joined_short : (net : Network) → IsNetwork net → (faulty : List ℕ) (most a b : ℕ) → IsLoyal net faulty a → IsJoinedBy net faulty most a b → IsJoinedBy net faulty 15 a b
unfolding Simple
joined_short net ok faulty most a b loyal (edges, l, w) =
    let few : net.generals ≤ 16 = ok.ranges.few_generals in
    let low : a < 16 = omega (arith, few, loyal.0) in
    let s = simple net faulty edges a b w in
    let long : length (a ∷ s.0) ≤ length (range_with_len 0 16) =
    length-le_from_distinct (a ∷ s.0) (range_with_len 0 16) s.2 (λ x h. Contains_in_range 0 16 x (omega arith) (omega (arith, below net faulty b a s.0 few low s.1 x h))) in
    (length s.0, omega (arith, long, length-range_with_len 0 16), walk_of net faulty b a s.0 s.1)

-- what some diameter withstands 15 withstands
pub withstands_short : (net : Network) → IsNetwork net → (traitors diameter : ℕ) → Withstands net traitors diameter → Withstands net traitors 15
withstands_short net ok traitors diameter so faulty few a b loyal_a loyal_b = joined_short net ok faulty diameter a b loyal_a (so faulty few a b loyal_a loyal_b)

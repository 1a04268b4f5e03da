-- The neighbours of a general, as a list.
use Rattle.std.proofs.Common.{◌≡◌, ℕ, ◌<◌, ◌⊎◌, inl, inr, true, ◌==◌, ◌&&◌, List, [], ◌∷◌, Contains, AllPairs, refl, sym, subst, arith}
use Rattle.std.specs.List.{list_any}
use Rattle.std.proofs.lemmas.Bool.{eq-eqb, eqb-true, or_cases, and_parts, and_from, or_left, or_right}
use Rattle.gen_types.specs.Members.{Contains_here, Contains_there, Contains_cases, Contains_nil, filter_range_has, filter_range_gives, filter_range_ascending}
use Rattle.gen_net.specs.Network.{Network, IsNetwork, AreNeighbours}
use Rattle.gen_net.specs.Edges.{joins}
use Rattle.gen_net.proofs.Neighbours.{joined_below}
use Rattle.gen_scenario.specs.SignedWorld.{neighbours_of}

pub joins_says : (a b : ℕ) (e : ℕ × ℕ) → joins a b e ≡ true → ((a, b) ≡ e) ⊎ ((b, a) ≡ e)
joins_says a b e yes_joins = elim (or_cases (e.0 == a && e.1 == b) (e.0 == b && e.1 == a) yes_joins) [
  | inl h ↦ let p = and_parts (e.0 == a) (e.1 == b) h in let x : e.0 ≡ a = eqb-true e.0 a p.0 in let y : e.1 ≡ b = eqb-true e.1 b p.1 in inl (λ i. (sym x i, sym y i))
  | inr h ↦ let p = and_parts (e.0 == b) (e.1 == a) h in let x : e.0 ≡ b = eqb-true e.0 b p.0 in let y : e.1 ≡ a = eqb-true e.1 a p.1 in inr (λ i. (sym x i, sym y i))
]

pub any_joins : (a b : ℕ) (edges : List (ℕ × ℕ)) → list_any (joins a b) edges ≡ true → Contains edges (a, b) ⊎ Contains edges (b, a)
any_joins a b [] h = absurd (cc)
any_joins a b (e ∷ es) h = elim (or_cases (joins a b e) (list_any (joins a b) es) h) [
  | inl here ↦ elim (joins_says a b e here) [
    | inl q ↦ inl (subst (λ z. Contains (e ∷ es) z) (sym q) (Contains_here e es))
    | inr q ↦ inr (subst (λ z. Contains (e ∷ es) z) (sym q) (Contains_here e es))
  ]
  | inr there ↦ elim (any_joins a b es there) [ inl k ↦ inl (Contains_there e (a, b) es k) | inr k ↦ inr (Contains_there e (b, a) es k) ]
]

joins_one : (a b : ℕ) → joins a b (a, b) ≡ true
joins_one a b = or_left (a == a && b == b) (a == b && b == a) (and_from (a == a) (b == b) (eq-eqb a a refl) (eq-eqb b b refl))

joins_other : (a b : ℕ) → joins a b (b, a) ≡ true
joins_other a b = or_right (b == a && a == b) (b == b && a == a) (and_from (b == b) (a == a) (eq-eqb b b refl) (eq-eqb a a refl))

joined_any : (a b : ℕ) (edges : List (ℕ × ℕ)) (e : ℕ × ℕ) → joins a b e ≡ true → Contains edges e → list_any (joins a b) edges ≡ true
joined_any a b [] e j h = absurd (Contains_nil e h)
joined_any a b (x ∷ xs) e j h = elim (Contains_cases x e xs h) [
  | inl q ↦ or_left (joins a b x) (list_any (joins a b) xs) (subst (λ z. joins a b z ≡ true) (sym q) j)
  | inr k ↦ or_right (joins a b x) (list_any (joins a b) xs) (joined_any a b xs e j k)
]

pub neighbours_ascend : (net : Network) (g : ℕ) → AllPairs (λ a b. a < b) (neighbours_of net g)
neighbours_ascend net g = filter_range_ascending (λ h. list_any (joins g h) net.edges) 0 net.generals

pub neighbour_joined : (net : Network) (g h : ℕ) → Contains (neighbours_of net g) h → AreNeighbours net g h
neighbour_joined net g h k = any_joins g h net.edges ((filter_range_has (λ x. list_any (joins g x) net.edges) 0 net.generals h k).2)

pub joined_neighbour : (net : Network) → IsNetwork net → (g h : ℕ) → AreNeighbours net g h → Contains (neighbours_of net g) h
joined_neighbour net ok g h joined =
    let holds : list_any (joins g h) net.edges ≡ true = elim joined [ inl k ↦ joined_any g h net.edges (g, h) (joins_one g h) k | inr k ↦ joined_any g h net.edges (h, g) (joins_other g h) k ] in
    filter_range_gives (λ x. list_any (joins g x) net.edges) 0 net.generals h (omega arith) (omega (arith, joined_below net ok g h joined)) holds

pub joined_holds : (net : Network) (g h : ℕ) → AreNeighbours net g h → list_any (joins g h) net.edges ≡ true
joined_holds net g h joined = elim joined [ inl k ↦ joined_any g h net.edges (g, h) (joins_one g h) k | inr k ↦ joined_any g h net.edges (h, g) (joins_other g h) k ]

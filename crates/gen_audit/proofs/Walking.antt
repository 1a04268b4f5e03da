-- Whether walks bound the diameter is decided, and which pair is the least that none of them joins.
use Rattle.std.proofs.Common.{◌≡◌, ℕ, ◌+◌, ◌<◌, ◌≤◌, ◌⊎◌, inl, inr, List, [], ◌∷◌, length, Contains, refl, subst, arith}
use Rattle.std.proofs.lemmas.Bool.{cases_eq, cases_lt}
use Rattle.gen_types.proofs.Lists.{decide_contains, decide_some, below_or_least}
use Rattle.gen_net.specs.Network.{Network, AreNeighbours}
use Rattle.gen_walks.specs.Walks.{IsInside, AreJoined, Leads, IsWalkInside, IsShortWalk, IsPair, Bridges, BoundsDiameter, IsLeastBadPair}
use Rattle.gen_audit.proofs.Deciding.{Dec, both, both3, not_dec}

pub less : (a b : ℕ) → Dec (a < b)
less a b = elim (cases_lt a b) [ inl l ↦ inl l | inr m ↦ inr (λ l. omega arith) ]

pub at_most : (a b : ℕ) → Dec (a ≤ b)
at_most a b = elim (cases_lt b a) [ inl l ↦ inr (λ m. omega arith) | inr m ↦ inl (omega arith) ]

has_edge : (net : Network) (a b : ℕ) → Dec (Contains net.edges (a, b))
has_edge net a b = elim (decide_some (λ (e : ℕ × ℕ). (e.0 ≡ a) × (e.1 ≡ b)) (λ e. both (e.0 ≡ a) (e.1 ≡ b) (cases_eq e.0 a) (cases_eq e.1 b)) net.edges) [
  | inl s ↦ inl (subst (λ (e : ℕ × ℕ). Contains net.edges e) (λ i. (s.2.0 i, s.2.1 i)) s.1)
  | inr none ↦ inr (λ h. none (a, b) h (refl, refl))
]

pub either : (P Q : Type 0) → Dec P → Dec Q → Dec (P ⊎ Q)
either P Q (inl p) q = inl (inl p)
either P Q (inr np) (inl q) = inl (inr q)
either P Q (inr np) (inr nq) = inr (λ h. elim h [ inl p ↦ np p | inr q ↦ nq q ])

pub are_neighbours : (net : Network) (a b : ℕ) → Dec (AreNeighbours net a b)
are_neighbours net a b = either (Contains net.edges (a, b)) (Contains net.edges (b, a)) (has_edge net a b) (has_edge net b a)

module _ (net : Network) (rest : List ℕ) where
  inside : (g : ℕ) → Dec (IsInside net rest g)
  inside g = both (g < net.generals) (Contains rest g) (less g net.generals) (decide_contains rest g)

  joined : (a b : ℕ) → Dec (AreJoined net rest a b)
  joined a b = both3 (AreNeighbours net a b) (IsInside net rest a) (IsInside net rest b) (are_neighbours net a b) (inside a) (inside b)

  leads : (a : ℕ) (more : List ℕ) (b : ℕ) → Dec (Leads (AreJoined net rest) a more b)
  leads a [] b = cases_eq a b
  leads a (c ∷ more) b = both (AreJoined net rest a c) (Leads (AreJoined net rest) c more b) (joined a c) (leads c more b)

  walk_inside : (a b : ℕ) (walk : List ℕ) → Dec (IsWalkInside net rest a b walk)
  walk_inside a b [] = inr (λ h. h)
  walk_inside a b (x ∷ more) = both3 (x ≡ a) (IsInside net rest a) (Leads (AreJoined net rest) a more b) (cases_eq x a) (inside a) (leads a more b)

  module _ (walks : List (List ℕ)) where
    bridges : (a b : ℕ) → Dec (Bridges net rest walks a b)
    bridges a b = elim (decide_some (IsShortWalk net rest a b) (λ walk. both (IsWalkInside net rest a b walk) (length walk ≤ net.diameter + 1) (walk_inside a b walk) (at_most (length walk) (net.diameter + 1))) walks) [
      | inl s ↦ inl s
      | inr none ↦ inr (λ s. none s.0 s.1 s.2)
    ]

    abbrev IsBad : ℕ → ℕ → Type 0
    IsBad a b = IsPair net rest a b × (Bridges net rest walks a b → ⊥)

    bad : (a b : ℕ) → Dec (IsBad a b)
    bad a b = both (IsPair net rest a b) (Bridges net rest walks a b → ⊥) (both3 (a < b) (IsInside net rest a) (IsInside net rest b) (less a b) (inside a) (inside b)) (not_dec (Bridges net rest walks a b) (bridges a b))

    -- the least b that is bad with a
    record LeastBad (a : ℕ) : Type 0 where
      pub b : ℕ
      pub bad : IsBad a b
      pub least : (y : ℕ) → y < b → IsBad a y → ⊥

    bad_with : (a : ℕ) → Dec (LeastBad a)
    bad_with a = elim (below_or_least (IsBad a) (bad a) net.generals) [
      | inl none ↦ inr (λ l. none l.b l.bad.0.2.0 l.bad)
      | inr s ↦ inl (record { b = s.0; bad = s.2; least = s.3 })
    ]

    good : (a b : ℕ) → (IsBad a b → ⊥) → IsPair net rest a b → Bridges net rest walks a b
    good a b fine pair = elim (bridges a b) [ inl h ↦ h | inr none ↦ absurd (fine (pair, none)) ]

    none_with : (a : ℕ) → (LeastBad a → ⊥) → (b : ℕ) → IsBad a b → ⊥
    none_with a none b is = elim (below_or_least (IsBad a) (bad a) net.generals) [
      | inl free ↦ free b is.0.2.0 is
      | inr s ↦ none (record { b = s.0; bad = s.2; least = s.3 })
    ]

    pub bound_or_bad : BoundsDiameter net rest walks ⊎ ((a b : ℕ) × IsLeastBadPair net rest (Bridges net rest walks) a b)
    bound_or_bad = elim (below_or_least LeastBad bad_with net.generals) [
      | inl none ↦ inl (λ a b pair. good a b (none_with a (none a pair.1.0) b) pair)
      | inr s ↦ inr (
        s.0,
        s.2.b,
        record {
          pair = s.2.bad.0;
          bad = s.2.bad.1;
          least = λ x y h. elim h.1 [
            | inl l ↦ good x y (none_with x (s.3 x l) y) h.0
            | inr q ↦ good x y (λ is. s.2.least y q.1 (subst (λ z. IsBad z y) q.0 is)) h.0
          ];
        },
      )
    ]

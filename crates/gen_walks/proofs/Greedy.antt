-- A walk that always goes to the least general who is nearer.
use Rattle.std.proofs.Common.{◌≡◌, ℕ, ◌+◌, ◌≤◌, inl, inr, List, [], ◌∷◌, ◌++◌, length, refl, sym, ap, arith, subst}
use Rattle.gen_net.specs.Network.{Network, AreNeighbours}
use Rattle.gen_net.specs.Log.{Precedes}
use Rattle.gen_walks.specs.Walks.{AreJoined, Leads, IsInside, IsWalkInside}
use Rattle.gen_walks.specs.BestWalks.{IsBestWalk}
use Rattle.gen_walks.specs.Loops.Search.{AreLevels, IsNearest}
use Rattle.gen_walks.proofs.Certificate.{falls_by}

pub turned_edge : (net : Network) (a b : ℕ) → AreNeighbours net a b → AreNeighbours net b a
turned_edge net a b (inl h) = inr h
turned_edge net a b (inr h) = inl h

-- an edge inside the set joins both ways
pub turned : (net : Network) (rest : List ℕ) (a b : ℕ) → AreJoined net rest a b → AreJoined net rest b a
turned net rest a b h = (turned_edge net a b h.0, h.2, h.1)

-- from a by these generals to b, each the nearest to the one before
abbrev pub Greedy : (ℕ → ℕ → Type 0) → (ℕ → ℕ) → ℕ → List ℕ → ℕ → Type 0
Greedy near lev a [] b = a ≡ b
Greedy near lev a (c ∷ more) b = IsNearest near lev a c × Greedy near lev c more b

pub one_more : (near : ℕ → ℕ → Type 0) (lev : ℕ → ℕ) (a : ℕ) (more : List ℕ) (b c : ℕ) → Greedy near lev a more b → IsNearest near lev b c → Greedy near lev a (more ++ c ∷ []) c
one_more near lev a [] b c g n = (subst (λ x. IsNearest near lev x c) (sym g) n, refl)
one_more near lev a (x ∷ more) b c (m, g) n = (m, one_more near lev x more b c g n)

greedy_leads : (near : ℕ → ℕ → Type 0) (lev : ℕ → ℕ) (a : ℕ) (more : List ℕ) (b : ℕ) → Greedy near lev a more b → Leads near a more b
greedy_leads near lev a [] b g = g
greedy_leads near lev a (c ∷ more) b (m, g) = (m.joins, greedy_leads near lev c more b g)

greedy_length : (near : ℕ → ℕ → Type 0) (lev : ℕ → ℕ) (a : ℕ) (more : List ℕ) (b : ℕ) → Greedy near lev a more b → lev a ≡ lev b + length more
greedy_length near lev a [] b g = omega (arith, ap lev g)
greedy_length near lev a (c ∷ more) b (m, g) = omega (arith, m.nearer, greedy_length near lev c more b g)

greedy_least : (near : ℕ → ℕ → Type 0) (lev : ℕ → ℕ) → ((a b : ℕ) → near a b → lev a ≤ lev b + 1) → (a : ℕ) (more : List ℕ) (b : ℕ) → Greedy near lev a more b → (other : List ℕ) → Leads near a other b → length other ≡ length more → Precedes other more → ⊥
greedy_least near lev even a [] b g [] h e before = before
greedy_least near lev even a [] b g (x ∷ other) h e before = before
greedy_least near lev even a (c ∷ more) b g [] h e before = omega arith
greedy_least near lev even a (c ∷ more) b (m, g) (x ∷ other) h e before =
    let far : lev x ≤ lev b + length other = falls_by near lev even x other b h.1 in
    let own : lev c ≡ lev b + length more = greedy_length near lev c more b g in
    let up : lev a ≤ lev x + 1 = even a x h.0 in
    let low : c ≤ x = m.least x h.0 (omega (arith, m.nearer)) in
    elim before [
      | inl l ↦ omega arith
      | inr (q, rest) ↦ greedy_least near lev even c more b g other (subst (λ y. Leads near y other b) q h.1) (omega arith) rest
    ]

shorter : (net : Network) (rest : List ℕ) (lev : ℕ → ℕ) (a b : ℕ) (more : List ℕ) → ((x y : ℕ) → AreJoined net rest x y → lev x ≤ lev y + 1) → lev a ≡ length more → lev b ≡ 0 → (other : List ℕ) → IsWalkInside net rest a b other → length (a ∷ more) ≤ length other
shorter net rest lev a b more even e z [] h = absurd h
shorter net rest lev a b more even e z (x ∷ other) h = omega (arith, falls_by (AreJoined net rest) lev even a other b h.2)

first : (net : Network) (rest : List ℕ) (lev : ℕ → ℕ) (a b : ℕ) (more : List ℕ) → ((x y : ℕ) → AreJoined net rest x y → lev x ≤ lev y + 1) → Greedy (AreJoined net rest) lev a more b → (other : List ℕ) → IsWalkInside net rest a b other → length other ≡ length (a ∷ more) → Precedes other (a ∷ more) → ⊥
first net rest lev a b more even g [] h e before = h
first net rest lev a b more even g (x ∷ other) h e before =
    let same : x ≡ a = h.0 in
    elim before [
      | inl l ↦ omega arith
      | inr (q, r) ↦ greedy_least (AreJoined net rest) lev even a more b g other h.2 (omega arith) r
    ]

-- such a walk is the best one
pub best : (net : Network) (rest : List ℕ) (lev : ℕ → ℕ) (a b : ℕ) (more : List ℕ) → AreLevels (AreJoined net rest) b lev → IsInside net rest a → Greedy (AreJoined net rest) lev a more b → IsBestWalk net rest a b (a ∷ more)
best net rest lev a b more levels start g =
    let near = AreJoined net rest in
    let even : (x y : ℕ) → near x y → lev x ≤ lev y + 1 = λ x y n. levels.even y x (turned net rest x y n) in
    record {
      leads = (refl, start, greedy_leads near lev a more b g);
      shortest = shorter net rest lev a b more even (omega (arith, levels.lowest, greedy_length near lev a more b g)) levels.lowest;
      least = first net rest lev a b more even g;
    }

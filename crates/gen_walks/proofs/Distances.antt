-- Levels that the search finds are distances.
use Rattle.std.proofs.Common.{◌≡◌, ◌≢◌, ℕ, zero, suc, ◌+◌, ◌<◌, ◌≤◌, inl, inr, List, [], ◌∷◌, ◌++◌, length, refl, sym, ap, arith, subst, length-append}
use Rattle.gen_net.specs.Network.{Network, IsNetwork}
use Rattle.gen_walks.specs.Walks.{IsInside, AreJoined, Leads, IsWalkInside, HasShortWalk}
use Rattle.gen_walks.specs.Levels.{level, IsDistance, IsDistanceRow}
use Rattle.gen_walks.specs.Loops.Search.{AreLevels}
use Rattle.gen_walks.proofs.Certificate.{shows}
use Rattle.gen_walks.proofs.Greedy.{turned}

-- generals whom an edge inside the set joins are below 16
pub ends_in : (net : Network) (rest : List ℕ) → IsNetwork net → (u v : ℕ) → AreJoined net rest u v → (u < 16) × (v < 16)
ends_in net rest ok u v n =
    let few : net.generals ≤ 16 = ok.ranges.few_generals in
    (omega (arith, n.1.0), omega (arith, n.2.0))

on_by : (near : ℕ → ℕ → Type 0) (a : ℕ) (more : List ℕ) (b c : ℕ) → Leads near a more b → near b c → Leads near a (more ++ c ∷ []) c
on_by near a [] b c h n = (subst (λ x. near x c) (sym h) n, refl)
on_by near a (x ∷ more) b c h n = (h.0, on_by near x more b c h.1 n)

module _ (near : ℕ → ℕ → Type 0) (ends : (u v : ℕ) → near u v → (u < 16) × (v < 16)) (source : ℕ) (lev : ℕ → ℕ) (levels : AreLevels near source lev) where
  -- who has a level below 255 has a walk of that many edges
  way : (j v : ℕ) → v < 16 → lev v ≡ j → j < 255 → (more : List ℕ) × Leads near source more v × (length more ≡ j)
  way zero v l e h = elim (levels.comes v l (omega arith)) [
    | inl q ↦ ([], sym q, refl)
    | inr (u, n, q) ↦ absurd (omega arith)
  ]
  way (suc j) v l e h = elim (levels.comes v l (omega arith)) [
    | inl q ↦ absurd (omega (arith, ap lev q, levels.lowest))
    | inr (u, n, q) ↦
        let w = way j u (ends u v n).0 (omega arith) (omega arith) in
        (w.0 ++ v ∷ [], on_by near source w.0 u v w.1 n, omega (arith, length-append w.0 (v ∷ []), w.2))
  ]

  -- walks stay among those who have a level
  stays : (a : ℕ) (more : List ℕ) (b : ℕ) → Leads near a more b → lev a ≤ 16 → lev b ≤ 16
  stays a [] b h l = omega (arith, ap lev h)
  stays a (c ∷ more) b h l =
      let up : lev c ≤ lev a + 1 = levels.even a c h.0 in
      stays c more b h.1 (elim (levels.bounded c (ends a c h.0).1) [ inl e ↦ absurd (omega arith) | inr e ↦ e ])

  comes_back : ((u v : ℕ) → near u v → near v u) → (a : ℕ) (more : List ℕ) (b : ℕ) → Leads near a more b → lev b ≤ 16 → lev a ≤ 16
  comes_back turn a [] b h l = omega (arith, ap lev h)
  comes_back turn a (c ∷ more) b h l =
      let back : lev c ≤ 16 = comes_back turn c more b h.1 l in
      let up : lev a ≤ lev c + 1 = levels.even c a (turn a c h.0) in
      elim (levels.bounded a (ends a c h.0).0) [ inl e ↦ absurd (omega arith) | inr e ↦ e ]

  -- who is not the source and near to nobody has no level
  apart : (v : ℕ) → v < 16 → v ≢ source → ((u : ℕ) → near u v → ⊥) → lev v ≡ 255
  apart v l other none = elim (levels.bounded v l) [
    | inl e ↦ e
    | inr low ↦ elim (levels.comes v l (omega arith)) [
      | inl q ↦ absurd (other q)
      | inr (u, n, e) ↦ absurd (none u n)
    ]
  ]

more_of : (net : Network) (rest : List ℕ) (a b : ℕ) (walk : List ℕ) → IsWalkInside net rest a b walk → (more : List ℕ) × Leads (AreJoined net rest) a more b
more_of net rest a b [] h = absurd h
more_of net rest a b (x ∷ more) h = (more, h.2)

pub distances : (net : Network) (rest : List ℕ) (source : ℕ) (row : List ℕ) → IsNetwork net → IsInside net rest source → AreLevels (AreJoined net rest) source (level row) → IsDistanceRow net rest source row
distances net rest source row ok inside levels =
    let few : net.generals ≤ 16 = ok.ranges.few_generals in
    record {
      levels = record { inside = inside; lowest = levels.lowest; even = levels.even };
      reached = λ g l h.
          let w = way (AreJoined net rest) (ends_in net rest ok) source (level row) levels (level row g) g (omega arith) refl h in
          let long : length (source ∷ w.0) ≡ level row g + 1 = omega (arith, w.2) in
          record {
            walk = source ∷ w.0;
            leads = (refl, inside, w.1);
            long = long;
            shortest = λ other o. omega (arith, long, shows net rest source row (record { inside = inside; lowest = levels.lowest; even = levels.even }) g other o);
          };
      unreached = λ g l e walk h.
          let m = more_of net rest source g walk h in
          omega (arith, e, stays (AreJoined net rest) (ends_in net rest ok) source (level row) levels source m.0 g m.1 (omega (arith, levels.lowest)));
      no_general = λ g out l. apart (AreJoined net rest) (ends_in net rest ok) source (level row) levels g l (λ e. omega (arith, e, inside.0)) (λ u n. omega (arith, n.2.0));
    }

-- where a walk leads from a to b, the levels from b reach a
pub reaches_back : (net : Network) (rest : List ℕ) (a b : ℕ) (row walk : List ℕ) → IsNetwork net → AreLevels (AreJoined net rest) b (level row) → IsWalkInside net rest a b walk → level row a < 255
reaches_back net rest a b row walk ok levels h =
    let m = more_of net rest a b walk h in
    omega (arith, comes_back (AreJoined net rest) (ends_in net rest ok) b (level row) levels (turned net rest) a m.0 b m.1 (omega (arith, levels.lowest)))

-- where no walk is as short as d edges there is no short walk
pub none_short : (net : Network) (rest : List ℕ) (a b edges : ℕ) → IsDistance net rest a b edges → net.diameter < edges → HasShortWalk net rest a b → ⊥
none_short net rest a b edges far longer w = omega (arith, longer, far.long, far.shortest w.0 w.1.0, w.1.1)

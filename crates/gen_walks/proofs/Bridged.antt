-- What walks for the pairs of a set show.
use Rattle.std.proofs.Common.{ℕ, zero, suc, ◌<◌, ◌≤◌, inl, inr, List, [], ◌∷◌, length, refl, sym, subst, arith}
use Rattle.std.proofs.lemmas.Bool.{cases_order}
use Rattle.gen_net.specs.Network.{Network, AreNeighbours, IsLoyal}
use Rattle.gen_net.specs.Walks.{IsWalk, HasDiameter}
use Rattle.gen_walks.proofs.Greedy.{turned_edge}
use Rattle.gen_walks.specs.Walks.{AreJoined, Leads, IsPair, IsShortWalk, IsWithinDiameter, IsRestOf, Bridges, BoundsDiameter, IsLeastBadPair}

one_edge_more : (net : Network) (faulty : List ℕ) (edges a b c : ℕ) → IsWalk net faulty edges a b → AreNeighbours net b c → IsLoyal net faulty c → IsWalk net faulty (suc edges) a c
one_edge_more net faulty zero a b c w near loyal = (c, subst (λ x. AreNeighbours net x c) (sym w) near, loyal, refl)
one_edge_more net faulty (suc edges) a b c w near loyal = (w.0, w.1, w.2, one_edge_more net faulty edges w.0 b c w.3 near loyal)

turned_walk : (net : Network) (faulty : List ℕ) (edges a b : ℕ) → IsLoyal net faulty a → IsWalk net faulty edges a b → IsWalk net faulty edges b a
turned_walk net faulty zero a b loyal w = sym w
turned_walk net faulty (suc edges) a b loyal w = one_edge_more net faulty edges b w.0 a (turned_walk net faulty edges w.0 b w.2 w.3) (turned_edge net a w.0 w.1) loyal

-- generals who lead on inside the rest are a walk of the rest
walk_of : (net : Network) (faulty rest : List ℕ) → IsRestOf net faulty rest → (a : ℕ) (more : List ℕ) (b : ℕ) → Leads (AreJoined net rest) a more b → IsWalk net faulty (length more) a b
walk_of net faulty rest of a [] b h = h
walk_of net faulty rest of a (c ∷ more) b h = (c, h.0.0, (of c).0 h.0.2, walk_of net faulty rest of c more b h.1)

walk_from : (net : Network) (faulty rest : List ℕ) → IsRestOf net faulty rest → (a b : ℕ) (walk : List ℕ) → IsShortWalk net rest a b walk → (edges : ℕ) × (edges ≤ net.diameter) × IsWalk net faulty edges a b
walk_from net faulty rest of a b [] h = absurd h.0
walk_from net faulty rest of a b (x ∷ more) h = (length more, omega (arith, h.1), walk_of net faulty rest of a more b h.0.2)

-- where the set is the rest, its walks bound the diameter of the rest
pub has_diameter : (net : Network) (rest : List ℕ) → IsWithinDiameter net rest → (faulty : List ℕ) → IsRestOf net faulty rest → HasDiameter net faulty
has_diameter net rest within faulty of a b loyal_a loyal_b = elim (cases_order a b) [
  | inl e ↦ (0, omega arith, e)
  | inr (inl l) ↦
      let w = within a b (l, (of a).1 loyal_a, (of b).1 loyal_b) in
      walk_from net faulty rest of a b w.0 w.1
  | inr (inr l) ↦
      let w = within b a (l, (of b).1 loyal_b, (of a).1 loyal_a) in
      let n = walk_from net faulty rest of b a w.0 w.1 in
      (n.0, n.1, turned_walk net faulty n.0 b a loyal_b n.2)
]

pub within_of : (net : Network) (rest : List ℕ) (walks : List (List ℕ)) → BoundsDiameter net rest walks → IsWithinDiameter net rest
within_of net rest walks bound a b p = let w = bound a b p in (w.0, w.2)

pub bound_of : (net : Network) (rest : List ℕ) (walks : List (List ℕ)) (n : ℕ) → net.generals ≤ n → ((x y : ℕ) → x < n → IsPair net rest x y → Bridges net rest walks x y) → BoundsDiameter net rest walks
bound_of net rest walks n le so a b p = so a b (omega (arith, p.1.0)) p

pub least_bad : (net : Network) (rest : List ℕ) (walks : List (List ℕ)) (a b : ℕ) → ((x y : ℕ) → x < a → IsPair net rest x y → Bridges net rest walks x y) → (IsPair net rest a b × (Bridges net rest walks a b → ⊥)) → ((y : ℕ) → y < b → IsPair net rest a y → Bridges net rest walks a y) → IsLeastBadPair net rest (Bridges net rest walks) a b
least_bad net rest walks a b rows fails row = record {
  pair = fails.0;
  bad = fails.1;
  least = λ x y h. elim h.1 [
    | inl l ↦ rows x y l h.0
    | inr (q, l) ↦ subst (λ z. Bridges net rest walks z y) (sym q) (row y l (subst (λ z. IsPair net rest z y) q h.0))
  ];
}

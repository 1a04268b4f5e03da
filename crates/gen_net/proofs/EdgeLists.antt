-- The edges that a list gives lie between generals below n and ascend.
use Rattle.std.proofs.Common.{refl, ◌≡◌, ℕ, zero, suc, ◌+◌, ◌-◌, ◌<◌, List, Contains, AllPairs, sym, ap, arith, inl, inr}
use Rattle.std.specs.List.{list_any, flat_map, range_with_len}
use Rattle.std.proofs.lemmas.List.Concat.{flat_map-cons}
use Rattle.std.proofs.lemmas.List.Kept.{AllPairs-filter}
use Rattle.std.proofs.lemmas.List.FromFn.{get_or-map-range_with_len, length-range_with_len}
use Rattle.std.proofs.lemmas.List.{length-map}
use Rattle.gen_types.proofs.Lists.{Contains_filtered, Contains_mapped, Contains_flat_mapped, Contains_range, AllPairs-append}
use Rattle.gen_net.specs.Network.{IsBefore, AreEdges}
use Rattle.gen_net.specs.Edges.{joins, row, pairs, edges_of}

row_inside : (n a : ℕ) (e : ℕ × ℕ) → Contains (row n a) e → (e.0 ≡ a) × (a < e.1) × (e.1 < n)
row_inside n a e h =
    let r = Contains_mapped (λ b. (a, b)) (range_with_len (a + 1) (n - (a + 1))) e h in
    let k = Contains_range (a + 1) (n - (a + 1)) r.0 r.1 in
    let first : a ≡ e.0 = ap (λ (p : ℕ × ℕ). p.0) r.2 in
    let second : r.0 ≡ e.1 = ap (λ (p : ℕ × ℕ). p.1) r.2 in
    (sym first, omega (arith, k.0), omega (arith, k.1))

edges_inside : (n : ℕ) (given : List (ℕ × ℕ)) (a b : ℕ) → Contains (edges_of n given) (a, b) → (a < b) × (b < n)
edges_inside n given a b h =
    let kept = Contains_filtered (λ p. list_any (joins p.0 p.1) given) (pairs n) (a, b) h in
    let r = Contains_flat_mapped (row n) (range_with_len 0 n) (a, b) kept.0 in
    let i = row_inside n r.0 (a, b) r.2 in
    (omega (arith, i.0, i.1), i.2)

row_ascends : (n a : ℕ) → AllPairs IsBefore (row n a)
row_ascends n a i j d l m =
    let long : j < n - (a + 1) = simp (length-map, length-range_with_len) at m in
    let first = get_or-map-range_with_len (λ b. (a, b)) (a + 1) (n - (a + 1)) i ((a + 1) + i) d (omega arith) (refl) in
    let second = get_or-map-range_with_len (λ b. (a, b)) (a + 1) (n - (a + 1)) j ((a + 1) + j) d long (refl) in
    rw (first, second) (inr (refl, omega arith))

rows_ascend : (n a k : ℕ) → AllPairs IsBefore (flat_map (row n) (range_with_len a k))
rows_ascend n a zero = λ i j d l m. absurd (omega arith)
rows_ascend n a (suc k) = rw flat_map-cons (AllPairs-append IsBefore (row n a) (flat_map (row n) (range_with_len (a + 1) k)) (row_ascends n a) (rows_ascend n (a + 1) k) (λ x y hx hy.
    let r = Contains_flat_mapped (row n) (range_with_len (a + 1) k) y hy in
    let below = Contains_range (a + 1) k r.0 r.1 in
    let left = row_inside n a x hx in
    let right = row_inside n r.0 y r.2 in
    inl (omega (arith, left.0, right.0, below.0))))

edges_ascend : (n : ℕ) (given : List (ℕ × ℕ)) → AllPairs IsBefore (edges_of n given)
edges_ascend n given = AllPairs-filter IsBefore (λ p. list_any (joins p.0 p.1) given) (pairs n) (rows_ascend n 0 n)

pub given_edges : (n : ℕ) (given : List (ℕ × ℕ)) → AreEdges n (edges_of n given)
given_edges n given = record { inside = edges_inside n given; ascending = edges_ascend n given }

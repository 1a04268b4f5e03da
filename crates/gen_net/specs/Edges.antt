-- Lists of edges: those that are given in any order and direction, and those that stand in their places.
use Rattle.std.specs.Prelude.{ℕ, ◌+◌, ◌-◌, Bool, true, false, not, ◌&&◌, ◌||◌, List, [], ◌∷◌, map, filter, nat_lt, ◌==◌}
use Rattle.std.specs.List.{list_any, flat_map, range_with_len}

-- the edge joins a and b, in either direction
abbrev pub joins : ℕ → ℕ → ℕ × ℕ → Bool
joins a b e = (e.0 == a && e.1 == b) || (e.0 == b && e.1 == a)

-- the pair is two different generals below n
abbrev pub is_edge : ℕ → ℕ × ℕ → Bool
is_edge n e = nat_lt e.0 n && nat_lt e.1 n && not (e.0 == e.1)

-- some pair is not two different generals below n, or comes twice, in either direction
abbrev pub has_bad_edge : ℕ → List (ℕ × ℕ) → Bool
has_bad_edge n [] = false
has_bad_edge n (e ∷ es) = not (is_edge n e) || list_any (joins e.0 e.1) es || has_bad_edge n es

-- the pairs (a, b) with a < b < n for one a, in ascending order
abbrev pub row : ℕ → ℕ → List (ℕ × ℕ)
row n a = map (λ b. (a, b)) (range_with_len (a + 1) (n - (a + 1)))

-- all pairs (a, b) with a < b < n, in ascending order
abbrev pub pairs : ℕ → List (ℕ × ℕ)
pairs n = flat_map (row n) (range_with_len 0 n)

-- the edges between generals below n that the pairs of a list give in any order and direction: each edge once
-- as (a, b) with a < b, ascending
abbrev pub edges_of : ℕ → List (ℕ × ℕ) → List (ℕ × ℕ)
edges_of n given = filter (λ p. list_any (joins p.0 p.1) given) (pairs n)

-- the edge e stands before the edge f: by the first general, then by the second
abbrev pub goes_before : ℕ × ℕ → ℕ × ℕ → Bool
goes_before e f = nat_lt e.0 f.0 || (e.0 == f.0 && nat_lt e.1 f.1)

-- the edge stands before the first of these; yes if there is none
abbrev pub goes_first : ℕ × ℕ → List (ℕ × ℕ) → Bool
goes_first e [] = true
goes_first e (f ∷ fs) = goes_before e f

-- each edge (a, b) has a < b < n, and the edges ascend strictly
abbrev pub in_place : ℕ → List (ℕ × ℕ) → Bool
in_place n [] = true
in_place n (e ∷ es) = nat_lt e.0 e.1 && nat_lt e.1 n && goes_first e es && in_place n es

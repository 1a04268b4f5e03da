-- Generals of a header that have equal roots.
use Rattle.std.specs.Prelude.{ℕ, ◌≡◌, ◌<◌, ◌↔◌, Bool, ◌&&◌, cond, nat_lt, List, [], ◌∷◌, Contains, AllPairs, Option, None, Some}
use Rattle.std.specs.Bool.{nat_eq}
use Rattle.std.specs.Cmp.Lexicographic.{pointwise}
use Rattle.std.specs.List.{flat_map, range_with_len}
use Rattle.gen_net.specs.Header.{RunHeader, root_of}
use Rattle.gen_net.specs.Network.{IsBefore}

-- a and b are generals of the header, a before b, and the root of both is the same
pub record HaveEqualRoots (h : RunHeader) (a b : ℕ) : Type 0 where
  pub ordered : a < b
  pub inside : b < h.network.generals
  pub equal : root_of h a ≡ root_of h b

-- the list has all pairs of generals with equal roots, each once, in ascending order
pub record AreEqualRoots (h : RunHeader) (pairs : List (ℕ × ℕ)) : Type 0 where
  pub ascending : AllPairs IsBefore pairs
  pub members : (a b : ℕ) → Contains pairs (a, b) ↔ HaveEqualRoots h a b

-- no two generals of the header have the same root
abbrev pub HasOwnRoots : RunHeader → Type 0
HasOwnRoots h = (a b : ℕ) → HaveEqualRoots h a b → ⊥

-- whether a stands before b and both have the same root
unfoldable pub share_root : RunHeader → ℕ → ℕ → Bool
share_root h a b = nat_lt a b && pointwise nat_eq (root_of h a) (root_of h b)

-- the pair of a and b, if they share a root
abbrev pub pair_of : RunHeader → ℕ → ℕ → List (ℕ × ℕ)
pair_of h a b = cond (share_root h a b) ((a, b) ∷ []) []

-- the pairs of a and each general that shares its root
abbrev pub pairs_of : RunHeader → ℕ → List (ℕ × ℕ)
pairs_of h a = flat_map (pair_of h a) (range_with_len 0 h.network.generals)

-- the pairs of all generals
unfoldable pub equal_roots : RunHeader → List (ℕ × ℕ)
equal_roots h = flat_map (pairs_of h) (range_with_len 0 h.network.generals)

-- the first pair of a list, if it has one
unfoldable pub first_pair : List (ℕ × ℕ) → Option (ℕ × ℕ)
first_pair [] = None
first_pair (pair ∷ more) = Some pair

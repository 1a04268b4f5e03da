-- The first two generals of the rest that no walk of at most d edges joins.
use Rattle.std.specs.Prelude.{ℕ, zero, suc, Bool, false, not, ◌&&◌, ◌||◌, ◌==◌, nat_lt, cond, List, [], ◌∷◌, Option}
use Rattle.std.specs.List.{flat_map, list_any, range_with_len}
use Rattle.gen_types.specs.Ends.{is_among}
use Rattle.gen_net.specs.Edges.{joins}
use Rattle.gen_net.specs.Network.{Network}
use Rattle.gen_plan.specs.EqualRoots.{first_pair}

-- whether a test holds of some number below n
abbrev pub any_below : (ℕ → Bool) → ℕ → Bool
any_below test zero = false
any_below test (suc n) = test n || any_below test n

-- whether an edge joins a and b
abbrev pub is_near : Network → ℕ → ℕ → Bool
is_near net a b = list_any (joins a b) net.edges

-- whether a walk of this many edges leads from a to b, and each general after a is of the rest
abbrev pub leads : Network → List ℕ → ℕ → ℕ → ℕ → Bool
leads net faulty zero a b = a == b
leads net faulty (suc edges) a b =
    any_below (λ c. is_near net a c && (not (is_among faulty c) && leads net faulty edges c b)) net.generals

-- whether a walk of at most this many edges leads from a to b, and each general after a is of the rest
abbrev pub is_joined : Network → List ℕ → ℕ → ℕ → ℕ → Bool
is_joined net faulty most a b = any_below (λ edges. leads net faulty edges a b) (suc most)

-- whether a stands before b, both are of the rest, and no walk of at most d edges inside the rest joins them
unfoldable pub is_parted : Network → List ℕ → ℕ → ℕ → Bool
is_parted net faulty a b =
    nat_lt a b && (not (is_among faulty a) && (not (is_among faulty b)
    && not (is_joined net faulty net.diameter a b)))

-- the pair of a and b, if they are parted
abbrev pub parted_of : Network → List ℕ → ℕ → ℕ → List (ℕ × ℕ)
parted_of net faulty a b = cond (is_parted net faulty a b) ((a, b) ∷ []) []

-- the parted pairs of a and each other general
abbrev pub parted_from : Network → List ℕ → ℕ → List (ℕ × ℕ)
parted_from net faulty a = flat_map (parted_of net faulty a) (range_with_len 0 net.generals)

-- the least pair of the rest that no walk of at most d edges inside the rest joins, if there is one
unfoldable pub parted_pair : Network → List ℕ → Option (ℕ × ℕ)
parted_pair net faulty = first_pair (flat_map (parted_from net faulty) (range_with_len 0 net.generals))

-- Beginnings of paths as numbers, and the keys of beginnings that were sent.
use Rattle.std.specs.Prelude.{ℕ, ◌+◌, ◌*◌, ◌&&◌, Bool, nat_le, nat_lt, List, [], ◌∷◌}
use Rattle.std.specs.List.{list_any}

-- the digits of n in base 16, followed by the generals of a path as such digits
abbrev pub number_behind : ℕ → List ℕ → ℕ
number_behind n [] = n
number_behind n (g ∷ path) = number_behind (n * 16 + g) path

-- the number of a path: the digit 1, followed by its generals as digits of base 16
abbrev pub path_number : List ℕ → ℕ
path_number path = number_behind 1 path

-- the key of a beginning of a path: from its number, the order and the number of generals of the whole path
abbrev pub source_key : ℕ → ℕ → ℕ → ℕ
source_key number order len = (number * 16 + order) * 32 + len

-- the keys of the beginnings of a path that are longer than the beginning with number n, which the given
-- generals follow
abbrev pub begin_keys : ℕ → ℕ → ℕ → List ℕ → List ℕ
begin_keys order len n [] = []
begin_keys order len n (g ∷ path) =
    source_key (n * 16 + g) order len ∷ begin_keys order len (n * 16 + g) path

-- one of the numbers is at least low and below high
abbrev pub has_between : List ℕ → ℕ → ℕ → Bool
has_between numbers low high = list_any (λ k. nat_le low k && nat_lt k high) numbers

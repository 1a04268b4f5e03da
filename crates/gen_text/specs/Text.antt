-- What a text is made of, apart from what its lines say: parts, bytes and lengths.
use Rattle.std.specs.Prelude.{ℕ, Bool, ◌||◌, List, nat_lt, ◌==◌}
use Rattle.std.specs.List.{slice_split}

-- the parts of a text before, between and after its line feeds; the last part is what follows the last line
-- feed
abbrev pub parts : List ℕ → List (List ℕ)
parts text = slice_split (λ b. b == 10) text

-- a byte that may not stand in a line
abbrev pub is_foreign : ℕ → Bool
is_foreign b = nat_lt b 32 || nat_lt 126 b

-- the greatest number of bytes of a line, without its line feed
abbrev pub longest_line : ℕ
longest_line = 600000

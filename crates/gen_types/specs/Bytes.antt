-- Fields of bytes, read from left to right. A field is a value and the bytes after it. The fault short says
-- that the field does not stand whole in front of the bytes.
use Rattle.std.specs.Prelude.{ℕ, zero, suc, List, [], ◌∷◌, length, take, drop, Result, Ok, Err, nat_lt, if◌then◌else◌}
use Rattle.std.specs.Int.{Width, byte_len, from_be_bytes}
use Rattle.gen_types.specs.Reading.{◌>>=◌}

-- one byte
abbrev pub byte_at : {F : Type 0} → F → List ℕ → Result (ℕ × List ℕ) F
byte_at short [] = Err short
byte_at short (b ∷ rest) = Ok (b, rest)

-- n bytes
abbrev pub bytes_at : {F : Type 0} → F → ℕ → List ℕ → Result (List ℕ × List ℕ) F
bytes_at short n bytes = if nat_lt (length bytes) n then Err short else Ok (take n bytes, drop n bytes)

-- a number of several bytes, big-endian
abbrev pub number_at : {F : Type 0} → F → Width → List ℕ → Result (ℕ × List ℕ) F
number_at short w bytes =
    if nat_lt (length bytes) (byte_len w) then Err short
    else Ok (from_be_bytes w (take (byte_len w) bytes), drop (byte_len w) bytes)

-- n fields of one kind, one after another
unfoldable pub many_at : {A F : Type 0} → (List ℕ → Result (A × List ℕ) F) → ℕ → List ℕ
    → Result (List A × List ℕ) F
many_at read zero bytes = Ok ([], bytes)
many_at read (suc n) bytes = do
  first ← read bytes
  others ← many_at read n first.1
  Ok (first.0 ∷ others.0, others.1)

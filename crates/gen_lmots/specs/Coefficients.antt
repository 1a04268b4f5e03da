-- The coefficients of a string, and the checksum of a hash (RFC 8554, sections 3.1.3 and 4.4).
use Rattle.std.specs.Prelude.{ℕ, zero, suc, ◌+◌, ◌-◌, ◌*◌, ◌/◌, ◌%◌, ◌^◌, List, ◌++◌, slice_index}
use Rattle.gen_lmots.specs.Strings.{winternitz, hash_coefficients, chain_steps, checksum_shift, u16str}

-- coef(S, i, w): the number that the w bits with index i of a string make, where the high bits of byte 0 come
-- first
abbrev pub coefficient : List ℕ → ℕ → ℕ
coefficient s i =
    slice_index s (i * winternitz / 8) / 2 ^ (8 - (winternitz * (i % (8 / winternitz)) + winternitz))
    % 2 ^ winternitz

-- the sum of what each of the first n coefficients of a string lacks of the greatest
unfoldable pub lacking : List ℕ → ℕ → ℕ
lacking s zero = 0
lacking s (suc n) = lacking s n + (chain_steps - coefficient s n)

-- Cksm(Q): the checksum of a hash
abbrev pub checksum : List ℕ → ℕ
checksum hash = lacking hash hash_coefficients * 2 ^ checksum_shift

-- coef(Q || Cksm(Q), i, w): how many steps the signature of a hash takes in chain i
abbrev pub steps_signed : List ℕ → ℕ → ℕ
steps_signed hash i = coefficient (hash ++ u16str (checksum hash)) i

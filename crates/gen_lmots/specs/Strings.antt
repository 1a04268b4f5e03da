-- The parameters of LMOTS_SHA256_N32_W4, and numbers as strings of bytes (RFC 8554, sections 3.1 and 4.1).
use Rattle.std.specs.Prelude.{ℕ, ◌+◌, ◌*◌, List, [], ◌∷◌, ◌++◌}
use Rattle.std.specs.Int.{w16, w32, to_be_bytes}
use Rattle.gen_lmots.specs.declared.places.KeyPlace.{KeyPlace}

-- the number n of bytes of a hash
abbrev pub hash_length : ℕ
hash_length = 32

-- the Winternitz parameter w: how many bits a coefficient has
abbrev pub winternitz : ℕ
winternitz = 4

-- the number of coefficients of a hash, which is n * 8 / w
abbrev pub hash_coefficients : ℕ
hash_coefficients = 64

-- the number p of chains, and so of coefficients of a hash and its checksum
abbrev pub chain_count : ℕ
chain_count = 67

-- the greatest coefficient, 2^w - 1, which is also the number of steps of a whole chain
abbrev pub chain_steps : ℕ
chain_steps = 15

-- the number ls of bits by which the checksum is shifted to the left
abbrev pub checksum_shift : ℕ
checksum_shift = 4

-- the type code of LMOTS_SHA256_N32_W4
abbrev pub type_code : ℕ
type_code = 3

-- the number of bytes of a one-time signature: its type code, the randomizer and a hash for each chain
abbrev pub ots_length : ℕ
ots_length = 4 + hash_length * (chain_count + 1)

-- a number in one byte, in two bytes and in four bytes, the high byte first
abbrev pub u8str : ℕ → List ℕ
u8str n = n ∷ []

abbrev pub u16str : ℕ → List ℕ
u16str n = to_be_bytes w16 n

abbrev pub u32str : ℕ → List ℕ
u32str n = to_be_bytes w32 n

-- D_PBLC and D_MESG, which stand before what is hashed to a public key and to a message's hash (section 7.1)
abbrev pub d_pblc : ℕ
d_pblc = 0x8080

abbrev pub d_mesg : ℕ
d_mesg = 0x8181

-- I || u32str(q): what each text begins with that is hashed for the key of this place
abbrev pub front : KeyPlace → List ℕ
front place = place.identifier ++ u32str place.number

-- Public keys (RFC 8554, section 5.3), and when bytes are one.
use Rattle.std.specs.Prelude.{ℕ, ◌≡◌, ◌≢◌, ◌+◌, List, ◌++◌, length, take, drop}
use Rattle.std.specs.Int.{w32, from_be_bytes}
use Rattle.gen_lmots.specs.Strings.{hash_length, type_code, u32str}
use Rattle.gen_lms.specs.declared.heights.LmsHeight.{LmsHeight}
use Rattle.gen_lms.specs.declared.faults.KeyFault.{KeyFault}
use Rattle.gen_lms.specs.declared.faults.KeyFault.TheVariants.{KeyLength, KeyTreeType, KeyOneTimeType}
use Rattle.gen_lms.specs.declared.public_keys.PublicKey.{PublicKey}
use Rattle.gen_lms.specs.Heights.{tree_code}

-- strTou32: the number that four bytes make, the high byte first
abbrev pub u32_of : List ℕ → ℕ
u32_of bytes = from_be_bytes w32 bytes

-- the number of bytes of a public key
abbrev pub key_length : ℕ
key_length = 24 + hash_length

-- u32str(type) || u32str(otstype) || I || T[1]: the bytes of a public key
abbrev pub key_bytes : PublicKey → List ℕ
key_bytes key =
    u32str (tree_code key.height) ++ (u32str type_code ++ (key.identifier ++ key.root))

-- what is wrong with bytes that are no public key: their number, the type code of the tree, or that of the
-- one-time keys
unfoldable pub IsKeyFault : KeyFault → List ℕ → Type 0
IsKeyFault KeyLength bytes = length bytes ≢ key_length
IsKeyFault KeyTreeType bytes =
    (length bytes ≡ key_length) × ((height : LmsHeight) → u32_of (take 4 bytes) ≢ tree_code height)
IsKeyFault KeyOneTimeType bytes =
    (length bytes ≡ key_length) × ((height : LmsHeight) × (u32_of (take 4 bytes) ≡ tree_code height))
    × (u32_of (take 4 (drop 4 bytes)) ≢ type_code)

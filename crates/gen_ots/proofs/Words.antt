-- The secrets that blocks of a key's stream have.
use Rattle.std.proofs.Common.{◌≡◌, ℕ, ◌+◌, ◌*◌, List, arith}
use Rattle.rand_chacha.specs.ChaCha.{key_of}
use Rattle.gen_ots.specs.Secrets.{KeyName, secret_at, secret_block, secret_of, secret_place, secret_stream}

-- the key words, the stream and the leaf are those of a named key
abbrev pub IsOf : KeyName → List ℕ → ℕ → ℕ → Type 0
IsOf k key stream leaf = (key ≡ key_of k.seed) × (stream ≡ secret_stream k.height) × (leaf ≡ k.leaf)

-- the secret of side 0 is the first in its block
pub low-of : (k : KeyName) (n : ℕ) (key : List ℕ) (stream leaf : ℕ) → IsOf k key stream leaf
    → secret_at key stream (16 * secret_block leaf n) ≡ secret_of k n 0
low-of k n key stream leaf same =
    let leaves : leaf ≡ k.leaf = same.2 in
    let place : 16 * secret_block leaf n ≡ secret_place k.leaf n 0 = omega arith in
    λ i. secret_at (same.0 i) (same.1 i) (place i)

-- and that of side 1 comes after it
pub high-of : (k : KeyName) (n : ℕ) (key : List ℕ) (stream leaf : ℕ) → IsOf k key stream leaf
    → secret_at key stream (16 * secret_block leaf n + 8) ≡ secret_of k n 1
high-of k n key stream leaf same =
    let leaves : leaf ≡ k.leaf = same.2 in
    let place : 16 * secret_block leaf n + 8 ≡ secret_place k.leaf n 1 = omega arith in
    λ i. secret_at (same.0 i) (same.1 i) (place i)

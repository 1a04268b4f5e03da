-- The chains of a one-time key, and the hash of a message (RFC 8554, sections 4.3 and 4.5).
use Rattle.std.specs.Prelude.{ℕ, zero, suc, ◌+◌, List, ◌++◌}
use Rattle.sha2.specs.Sha256.{sha256}
use Rattle.gen_lmots.specs.declared.places.KeyPlace.{KeyPlace}
use Rattle.gen_lmots.specs.Strings.{front, u8str, u16str, d_mesg, d_pblc}

-- H(I || u32str(q) || u16str(i) || u8str(j) || tmp): what stands behind a value in chain i, j steps from its
-- start. The text has 55 bytes, so that it takes one block of SHA-256.
abbrev pub chain_step : KeyPlace → ℕ → ℕ → List ℕ → List ℕ
chain_step place i j value = sha256 (front place ++ (u16str i ++ (u8str j ++ value)))

-- the value n steps behind a value in chain i that stands j steps from its start
unfoldable pub chained : KeyPlace → ℕ → ℕ → ℕ → List ℕ → List ℕ
chained place i j zero value = value
chained place i j (suc n) value = chain_step place i (j + n) (chained place i j n value)

-- H(I || u32str(q) || u16str(D_MESG) || C || message): the hash Q of a message with a randomizer C
abbrev pub message_hash : KeyPlace → List ℕ → List ℕ → List ℕ
message_hash place randomizer message =
    sha256 (front place ++ (u16str d_mesg ++ (randomizer ++ message)))

-- H(I || u32str(q) || u16str(D_PBLC) || ..): the public key K over the ends of all chains, which stand one
-- after another
abbrev pub key_over : KeyPlace → List ℕ → List ℕ
key_over place ends = sha256 (front place ++ (u16str d_pblc ++ ends))

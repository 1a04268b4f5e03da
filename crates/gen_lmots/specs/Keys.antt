-- One-time keys: their secrets and public keys (RFC 8554, section 4.3 and appendix A).
use Rattle.std.specs.Prelude.{ℕ, zero, suc, Bool, List, [], ◌++◌}
use Rattle.sha2.specs.Sha256.{sha256}
use Rattle.gen_lmots.specs.declared.places.KeyPlace.{KeyPlace}
use Rattle.gen_lmots.specs.Chains.{chained, key_over}
use Rattle.gen_lmots.specs.Strings.{chain_count, chain_steps, front, u8str, u16str}

-- what a contract sees of a key: the seed that its secrets come from, its place, and whether it is still to
-- be spent
pub record KeyState : Type 0 where
  pub seed : List ℕ
  pub place : KeyPlace
  pub live : Bool

-- H(I || u32str(q) || u16str(i) || u8str(0xff) || SEED): the secret with which chain i starts
abbrev pub secret : List ℕ → KeyPlace → ℕ → List ℕ
secret seed place i = sha256 (front place ++ (u16str i ++ (u8str 255 ++ seed)))

-- the ends of the first n chains of a key, one after another
unfoldable pub ends : List ℕ → KeyPlace → ℕ → List ℕ
ends seed place zero = []
ends seed place (suc n) =
    ends seed place n ++ chained place n 0 chain_steps (secret seed place n)

-- the public key K of a key
unfoldable pub public_key : List ℕ → KeyPlace → List ℕ
public_key seed place = key_over place (ends seed place chain_count)

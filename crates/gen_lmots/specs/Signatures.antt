-- One-time signatures, and the public keys that they stand for (RFC 8554, sections 4.5 and 4.6).
use Rattle.std.specs.Prelude.{ℕ, zero, suc, ◌-◌, ◌*◌, List, [], ◌++◌, take, drop}
use Rattle.gen_lmots.specs.declared.places.KeyPlace.{KeyPlace}
use Rattle.gen_lmots.specs.Chains.{chained, key_over, message_hash}
use Rattle.gen_lmots.specs.Coefficients.{steps_signed}
use Rattle.gen_lmots.specs.Keys.{secret}
use Rattle.gen_lmots.specs.Strings.{chain_count, chain_steps, hash_length, type_code, u32str}

-- what a signature of a hash shows of the first n chains of a key: in each chain the value that stands as
-- many steps from the start as the coefficient says
unfoldable pub shown : List ℕ → KeyPlace → List ℕ → ℕ → List ℕ
shown seed place hash zero = []
shown seed place hash (suc n) =
    shown seed place hash n ++ chained place n 0 (steps_signed hash n) (secret seed place n)

-- u32str(type) || C || y[0] || .. || y[p-1]: the signature of a message with a randomizer C (algorithm 3)
unfoldable pub signature_of : List ℕ → KeyPlace → List ℕ → List ℕ → List ℕ
signature_of seed place randomizer message =
    u32str type_code ++ (randomizer
    ++ shown seed place (message_hash place randomizer message) chain_count)

-- y[i]: the value that a signature shows of chain i, where the values stand one after another
abbrev pub value_at : List ℕ → ℕ → List ℕ
value_at values i = take hash_length (drop (hash_length * i) values)

-- the ends of the first n chains to which a signature of a hash leads, one after another
unfoldable pub led_ends : KeyPlace → List ℕ → List ℕ → ℕ → List ℕ
led_ends place hash values zero = []
led_ends place hash values (suc n) =
    led_ends place hash values n
    ++ chained place n (steps_signed hash n) (chain_steps - steps_signed hash n) (value_at values n)

-- Kc: the public key that the values of a signature of a hash stand for
unfoldable pub key_led : KeyPlace → List ℕ → List ℕ → List ℕ
key_led place hash values = key_over place (led_ends place hash values chain_count)

-- Kc: the public key that a one-time signature of a message stands for, whose type code and length are right
-- (algorithm 4b, steps 2d to 4)
unfoldable pub candidate : KeyPlace → List ℕ → List ℕ → List ℕ
candidate place signature message =
    key_led place (message_hash place (take hash_length (drop 4 signature)) message)
    (drop hash_length (drop 4 signature))

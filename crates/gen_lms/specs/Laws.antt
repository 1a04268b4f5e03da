-- What a signature tells that its holder did not make: the statements of the laws.
use Rattle.std.specs.Prelude.{ℕ, ◌≡◌, ◌≢◌, ◌<◌, ◌*◌, ◌⊎◌, List, All, length, take, drop, ◌++◌}
use Rattle.gen_ots.specs.Colliding.{AreColliding}
use Rattle.gen_lmots.specs.declared.places.KeyPlace.{KeyPlace}
use Rattle.gen_lmots.specs.Chains.{message_hash}
use Rattle.gen_lmots.specs.Keys.{public_key}
use Rattle.gen_lmots.specs.Signatures.{key_led}
use Rattle.gen_lmots.specs.Strings.{chain_count, d_mesg, front, hash_length, u16str}
use Rattle.gen_lms.specs.declared.heights.LmsHeight.{LmsHeight}
use Rattle.gen_lms.specs.Forging.{GivesAway, NodesCollide}
use Rattle.gen_lms.specs.Heights.{levels_of}
use Rattle.gen_lms.specs.Rings.{TreeName, place_of, public_key_of}
use Rattle.gen_lms.specs.Signatures.{Verifies, number_in, one_time_in, root_over}

-- bytes, as many as a hash has
abbrev pub IsHash : List ℕ → Type 0
IsHash bytes = (length bytes ≡ hash_length) × All (λ b. b < 256) bytes

-- Two one-time public keys that stand at one leaf under one root are one, or two texts of the tree have one
-- hash.
abbrev pub LeafHasOneKey : Type 0
LeafHasOneKey =
    (identifier : List ℕ) (height : LmsHeight) (q : ℕ) (key path other behind : List ℕ)
    → length path ≡ hash_length * levels_of height → length behind ≡ hash_length * levels_of height
    → root_over identifier height q key path ≡ root_over identifier height q other behind
    → (key ≡ other) ⊎ NodesCollide identifier

-- Values that stand for a public key, of another hash than the one that its holder signed, give the key away.
abbrev pub OtherHashGivesAway : Type 0
OtherHashGivesAway =
    (seed : List ℕ) (place : KeyPlace) (signed hash values : List ℕ) → IsHash signed → IsHash hash
    → hash ≢ signed → length values ≡ hash_length * chain_count
    → key_led place hash values ≡ public_key seed place
    → GivesAway seed place signed hash values

-- the randomizer and the values of the one-time signature in a signature
abbrev pub randomizer_in : List ℕ → List ℕ
randomizer_in signature = take hash_length (drop 4 (one_time_in signature))

abbrev pub values_in : List ℕ → List ℕ
values_in signature = drop hash_length (drop 4 (one_time_in signature))

-- the hash that a signature of a message signs
abbrev pub hash_signed : List ℕ → List ℕ → List ℕ → List ℕ
hash_signed identifier message signature =
    message_hash (record { identifier = identifier; number = number_in signature }) (randomizer_in signature)
    message

-- A signature verifies under the public key of a tree, and signs another hash than the one that the tree's
-- holder signed with this leaf. Then two texts of the tree have one hash, or the leaf's key is given away.
abbrev pub ForgeryGivesAway : Type 0
ForgeryGivesAway =
    (tree : TreeName) (message signature signed : List ℕ) → Verifies (public_key_of tree) message signature
    → IsHash signed → hash_signed tree.identifier message signature ≢ signed
    → NodesCollide tree.identifier
    ⊎ GivesAway tree.seed (place_of tree (number_in signature)) signed
    (hash_signed tree.identifier message signature) (values_in signature)

-- the text that is hashed before it is signed
abbrev pub message_text : KeyPlace → List ℕ → List ℕ → List ℕ
message_text place randomizer message = front place ++ (u16str d_mesg ++ (randomizer ++ message))

-- A signature of a message verifies under the public key of a tree, and the tree's holder signed another
-- message with this leaf. Then the texts of both messages have one hash, or two texts of the tree, or the
-- leaf's key is given away.
abbrev pub ForgedMessageGivesAway : Type 0
ForgedMessageGivesAway =
    (tree : TreeName) (message signature randomizer own : List ℕ)
    → Verifies (public_key_of tree) message signature → length randomizer ≡ hash_length → message ≢ own
    → AreColliding (message_text (place_of tree (number_in signature)) (randomizer_in signature) message)
    (message_text (place_of tree (number_in signature)) randomizer own)
    ⊎ (NodesCollide tree.identifier
    ⊎ GivesAway tree.seed (place_of tree (number_in signature))
    (message_hash (place_of tree (number_in signature)) randomizer own)
    (hash_signed tree.identifier message signature) (values_in signature))

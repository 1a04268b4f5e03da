-- Signatures (RFC 8554, section 5.4), and when one verifies (section 5.4.2, algorithms 6 and 6a).
use Rattle.std.specs.Prelude.{ℕ, ◌≡◌, ◌≢◌, ◌<◌, ◌≤◌, ◌+◌, ◌*◌, List, length, take, drop}
use Rattle.gen_lmots.specs.Signatures.{candidate}
use Rattle.gen_lmots.specs.Strings.{hash_length, ots_length, type_code}
use Rattle.gen_lms.specs.declared.heights.LmsHeight.{LmsHeight}
use Rattle.gen_lms.specs.declared.faults.Refusal.{Refusal}
use Rattle.gen_lms.specs.declared.faults.Refusal.TheVariants.{WrongLength, WrongOneTimeType, WrongTreeType, NoSuchLeaf, WrongRoot}
use Rattle.gen_lms.specs.declared.public_keys.PublicKey.{PublicKey}
use Rattle.gen_lms.specs.Heights.{levels_of, leaves_of, tree_code}
use Rattle.gen_lms.specs.PublicKeys.{u32_of}
use Rattle.gen_lms.specs.Tree.{leaf, led}

-- the number of bytes of a signature: the number of the leaf, the one-time signature, the type code of the
-- tree, and a hash for each level
abbrev pub signature_length : LmsHeight → ℕ
signature_length height = 8 + ots_length + hash_length * levels_of height

-- ---- the parts of a signature

-- q: the number of the leaf
abbrev pub number_in : List ℕ → ℕ
number_in signature = u32_of (take 4 signature)

-- the one-time signature
abbrev pub one_time_in : List ℕ → List ℕ
one_time_in signature = take ots_length (drop 4 signature)

-- the type code of the one-time signature
abbrev pub one_time_code_in : List ℕ → ℕ
one_time_code_in signature = u32_of (take 4 (one_time_in signature))

-- what stands behind the one-time signature
abbrev pub behind_one_time : List ℕ → List ℕ
behind_one_time signature = drop ots_length (drop 4 signature)

-- the type code of the tree
abbrev pub tree_code_in : List ℕ → ℕ
tree_code_in signature = u32_of (take 4 (behind_one_time signature))

-- path[0] || .. || path[h-1]
abbrev pub path_in : List ℕ → List ℕ
path_in signature = drop 4 (behind_one_time signature)

-- ---- whether a signature verifies

-- the root over a one-time public key with the number q and a path: Tc (algorithm 6a, step 4)
abbrev pub root_over : List ℕ → LmsHeight → ℕ → List ℕ → List ℕ → List ℕ
root_over identifier height q key path =
    led identifier (leaves_of height + q) (leaf identifier (leaves_of height + q) key) path (levels_of height)

-- the root that a signature of a message stands for, with the identifier and the height of a tree
abbrev pub implied_root : List ℕ → LmsHeight → List ℕ → List ℕ → List ℕ
implied_root identifier height message signature =
    root_over identifier height (number_in signature)
    (candidate (record { identifier = identifier; number = number_in signature }) (one_time_in signature)
    message)
    (path_in signature)

-- a signature of a message verifies under a public key
pub record Verifies (key : PublicKey) (message signature : List ℕ) : Type 0 where
  pub whole : length signature ≡ signature_length key.height
  pub one_time_type : one_time_code_in signature ≡ type_code
  pub tree_type : tree_code_in signature ≡ tree_code key.height
  pub below : number_in signature < leaves_of key.height
  pub leads : implied_root key.identifier key.height message signature ≡ key.root

-- Why a signature does not verify. What is tested first is right where a later test is the reason.
unfoldable pub IsRefused : Refusal → PublicKey → List ℕ → List ℕ → Type 0
IsRefused WrongLength key message signature = length signature ≢ signature_length key.height
IsRefused WrongOneTimeType key message signature =
    (length signature ≡ signature_length key.height) × (one_time_code_in signature ≢ type_code)
IsRefused WrongTreeType key message signature =
    (length signature ≡ signature_length key.height) × (one_time_code_in signature ≡ type_code)
    × (tree_code_in signature ≢ tree_code key.height)
IsRefused NoSuchLeaf key message signature =
    (length signature ≡ signature_length key.height) × (one_time_code_in signature ≡ type_code)
    × (tree_code_in signature ≡ tree_code key.height) × (leaves_of key.height ≤ number_in signature)
IsRefused WrongRoot key message signature =
    (length signature ≡ signature_length key.height) × (one_time_code_in signature ≡ type_code)
    × (tree_code_in signature ≡ tree_code key.height) × (number_in signature < leaves_of key.height)
    × (implied_root key.identifier key.height message signature ≢ key.root)

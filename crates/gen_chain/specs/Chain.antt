-- Signed chains, and the one spelling of each in bytes.
use Rattle.std.specs.Prelude.{◌≡◌, ◌≢◌, ◌≤◌, ◌<◌, ℕ, ◌+◌, List, [], ◌∷◌, length, map, All, AllPairs}
use Rattle.std.specs.List.{flat_map, AllByRecursion}
use Rattle.gen_types.specs.declared.heights.TreeHeight.{TreeHeight}
use Rattle.gen_types.specs.Ends.{BeginsWith}
use Rattle.gen_tree.specs.Sizes.{signature_length}
use Rattle.gen_chain.specs.declared.chains.Signer.{Signer}

-- an order and its signers
pub record Chain : Type 0 where
  pub order : ℕ
  pub signers : List Signer

-- the greatest order of a chain, and the most signers
abbrev pub greatest_order : ℕ
greatest_order = 14

abbrev pub most_signers : ℕ
most_signers = 16

-- the generals that signed, from the first to the last
abbrev pub signed_path : List Signer → List ℕ
signed_path signers = map (λ s. s.general) signers

-- each signature has the length of signatures by trees of this height
abbrev pub AreSignatures : TreeHeight → List Signer → Type 0
AreSignatures height signers =
    AllByRecursion (λ s. length s.signature ≡ signature_length height) signers

-- The invariant of a chain: its order is at most 14, its signers are 1 to 16 distinct generals, the commander
-- first, and its signatures are by trees of one height.
pub record IsSignedChain (height : TreeHeight) (c : Chain) : Type 0 where
  pub order : c.order ≤ greatest_order
  pub some : 1 ≤ length c.signers
  pub few : length c.signers ≤ most_signers
  pub below : All (λ g. g < 16) (signed_path c.signers)
  pub distinct : AllPairs (λ g h. g ≢ h) (signed_path c.signers)
  pub from_commander : BeginsWith (signed_path c.signers) (0 ∷ [])
  pub wide : AreSignatures height c.signers

-- a signer is a byte with its number, and its signature; and the numbers of bytes of one signer and of
-- several
abbrev pub signer_length : TreeHeight → ℕ
signer_length height = 1 + signature_length height

abbrev pub signer_spelling : Signer → List ℕ
signer_spelling s = s.general ∷ s.signature

abbrev pub signers_length : List Signer → ℕ
signers_length signers = length (flat_map signer_spelling signers)

-- the one spelling of a chain: the order, the number of signers, and each signer
abbrev pub chain_spelling : Chain → List ℕ
chain_spelling c = c.order ∷ length c.signers ∷ flat_map signer_spelling c.signers

-- the number of bytes of a chain's spelling
abbrev pub chain_length : Chain → ℕ
chain_length c = length (chain_spelling c)

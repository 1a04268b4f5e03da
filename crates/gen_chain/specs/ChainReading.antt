-- Reading a chain from left to right, with the first fault that is met.
use Rattle.std.specs.Prelude.{ℕ, ◌*◌, Bool, false, not, ◌&&◌, ◌||◌, ◌==◌, List, [], ◌∷◌, length, Result, Ok, nat_le, nat_lt}
use Rattle.gen_types.specs.declared.heights.TreeHeight.{TreeHeight}
use Rattle.gen_types.specs.Reading.{◌>>=◌, check}
use Rattle.gen_types.specs.Bytes.{byte_at, bytes_at, many_at}
use Rattle.gen_types.specs.Ends.{is_among}
use Rattle.gen_tree.specs.Sizes.{signature_length}
use Rattle.gen_chain.specs.declared.fault.ChainFault.{ChainFault}
use Rattle.gen_chain.specs.declared.fault.ChainFault.TheVariants.{Truncated, OrderRange, SignerCount, BadSigner, NotFromCommander}
use Rattle.gen_chain.specs.declared.chains.Signer.{Signer}
use Rattle.gen_chain.specs.Chain.{Chain, greatest_order, most_signers, signed_path, signer_length}

-- some general is twice in the path
abbrev pub repeats : List ℕ → Bool
repeats [] = false
repeats (g ∷ others) = is_among others g || repeats others

-- the commander is the first of the path
abbrev pub begins_with_commander : List ℕ → Bool
begins_with_commander [] = false
begins_with_commander (g ∷ others) = g == 0

-- a signer: its number and its signature
unfoldable pub signer_at : TreeHeight → List ℕ → Result (Signer × List ℕ) ChainFault
signer_at height bytes = do
  general ← byte_at Truncated bytes
  signature ← bytes_at Truncated (signature_length height) general.1
  known ← check (nat_lt general.0 16) BadSigner
  Ok (record { general = general.0; signature = signature.0 }, signature.1)

-- the order and the number of signers, which stand before the signers
pub record ChainFront : Type 0 where
  pub order : ℕ
  pub count : ℕ

unfoldable pub chain_front_at : List ℕ → Result (ChainFront × List ℕ) ChainFault
chain_front_at bytes = do
  order ← byte_at Truncated bytes
  count ← byte_at Truncated order.1
  known ← check (nat_le order.0 greatest_order) OrderRange
  lawful ← check (nat_le 1 count.0 && nat_le count.0 most_signers) SignerCount
  Ok (record { order = order.0; count = count.0 }, count.1)

-- count signers: distinct generals, the commander first
unfoldable pub signers_at : TreeHeight → ℕ → List ℕ → Result (List Signer × List ℕ) ChainFault
signers_at height count bytes = do
  signers ← many_at (signer_at height) count bytes
  distinct ← check (not (repeats (signed_path signers.0))) BadSigner
  first ← check (begins_with_commander (signed_path signers.0)) NotFromCommander
  Ok signers

-- a chain: its order, the number of its signers, and the signers
unfoldable pub chain_at : TreeHeight → List ℕ → Result (Chain × List ℕ) ChainFault
chain_at height bytes = do
  front ← chain_front_at bytes
  enough ← check (nat_le (signer_length height * front.0.count) (length front.1)) Truncated
  signers ← signers_at height front.0.count front.1
  Ok (record { order = front.0.order; signers = signers.0 }, signers.1)

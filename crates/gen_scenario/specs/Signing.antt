-- The chains that generals make with the keys of their seeds.
use Rattle.std.specs.Prelude.{ℕ, ◌+◌, ◌-◌, if◌then◌else◌, List, [], ◌∷◌, ◌++◌, nat_lt}
use Rattle.gen_ots.specs.Secrets.{KeyName}
use Rattle.gen_net.specs.Header.{RunHeader, height_of}
use Rattle.gen_chain.specs.declared.chains.Signer.{Signer}
use Rattle.gen_chain.specs.Chain.{Chain, signed_path}
use Rattle.gen_chain.specs.Leaves.{leaf_of_order}
use Rattle.gen_chain.specs.Making.{signed_by}

-- the keys of a run: its header, and the seed of each general's keys
pub record Keys : Type 0 where
  pub header : RunHeader
  pub seeds : ℕ → List ℕ

-- a general's key of a leaf
abbrev pub key_of : Keys → ℕ → ℕ → KeyName
key_of k g leaf = record { seed = k.seeds g; height = height_of k.header; leaf = leaf }

-- a general's key for an order
abbrev pub order_key : Keys → ℕ → ℕ → KeyName
order_key k g order = key_of k g (leaf_of_order k.header order)

-- the general as a signer of the order behind a path, with its signature
abbrev pub signer_behind : Keys → ℕ → List ℕ → ℕ → Signer
signer_behind k order path g =
    signed_by (order_key k g order) k.header (record { order = order; path = path ++ g ∷ [] }) g

-- the generals of a path as signers of the order, one after another behind a first path
unfoldable pub signers_along : Keys → ℕ → List ℕ → List ℕ → List Signer
signers_along k order path [] = []
signers_along k order path (g ∷ others) =
    signer_behind k order path g ∷ signers_along k order (path ++ g ∷ []) others

-- the chain of an order that all generals of a path have signed
abbrev pub made : Keys → ℕ → List ℕ → Chain
made k order path = record { order = order; signers = signers_along k order [] path }

-- the chain lengthened by the signatures of a path
abbrev pub lengthened : Keys → Chain → List ℕ → Chain
lengthened k c path = record {
  order = c.order;
  signers = c.signers ++ signers_along k c.order (signed_path c.signers) path;
}

-- a byte with its most significant bit flipped
abbrev pub flipped : ℕ → ℕ
flipped b = if nat_lt b 128 then b + 128 else b - 128

abbrev pub bent_signature : List ℕ → List ℕ
bent_signature [] = []
bent_signature (b ∷ others) = flipped b ∷ others

abbrev pub bent_signers : List Signer → List Signer
bent_signers [] = []
bent_signers (s ∷ []) = record { general = s.general; signature = bent_signature s.signature } ∷ []
bent_signers (s ∷ t ∷ others) = s ∷ bent_signers (t ∷ others)

-- the chain with the most significant bit of its last signature's first byte flipped
abbrev pub bent : Chain → Chain
bent c = record { order = c.order; signers = bent_signers c.signers }

-- The chains that are made: each signer signs the order together with the path up to and with itself.
use Rattle.std.specs.Prelude.{◌≡◌, ℕ, [], ◌∷◌, ◌++◌}
use Rattle.gen_ots.specs.Secrets.{KeyName}
use Rattle.gen_tree.specs.Rings.{ring_root}
use Rattle.gen_tree.specs.Signatures.{tree_signature}
use Rattle.gen_net.specs.Header.{RunHeader, height_of, root_of}
use Rattle.gen_chain.specs.declared.chains.Signer.{Signer}
use Rattle.gen_chain.specs.declared.statements.Statement.{Statement}
use Rattle.gen_chain.specs.Chain.{Chain, signed_path}
use Rattle.gen_chain.specs.Leaves.{leaf_of_order}
use Rattle.gen_chain.specs.Texts.{statement_digest}

-- a general and its signature of a statement by a key
abbrev pub signed_by : KeyName → RunHeader → Statement → ℕ → Signer
signed_by key h statement me =
    record { general = me; signature = tree_signature key (statement_digest h statement) }

-- the chain that the commander alone has signed
abbrev pub begun : RunHeader → ℕ → KeyName → Chain
begun h order key = record {
  order = order;
  signers = signed_by key h (record { order = order; path = 0 ∷ [] }) 0 ∷ [];
}

-- the statement that one more signer of a chain signs
abbrev pub next_statement : Chain → ℕ → Statement
next_statement c me = record { order = c.order; path = signed_path c.signers ++ me ∷ [] }

-- the chain with one more signer
abbrev pub extended : RunHeader → Chain → ℕ → KeyName → Chain
extended h c me key = record {
  order = c.order;
  signers = c.signers ++ signed_by key h (next_statement c me) me ∷ [];
}

-- the key may sign statements of this order in the run: it is of a tree of the run's height, and of
-- the order's leaf
pub record IsLeafOf (h : RunHeader) (order : ℕ) (key : KeyName) : Type 0 where
  pub height : key.height ≡ height_of h
  pub leaf : key.leaf ≡ leaf_of_order h order

-- the key is of a ring with the general's root
abbrev pub IsKeyOf : RunHeader → ℕ → KeyName → Type 0
IsKeyOf h me key = root_of h me ≡ ring_root key.seed key.height

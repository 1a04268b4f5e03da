-- When a signature of a statement verifies, and when a chain does.
use Rattle.std.specs.Prelude.{◌≡◌, ◌<◌, ℕ, List, [], ◌∷◌, ◌++◌}
use Rattle.gen_tree.specs.Signatures.{Verifies}
use Rattle.gen_net.specs.Header.{RunHeader, height_of, root_of}
use Rattle.gen_chain.specs.declared.chains.Signer.{Signer}
use Rattle.gen_chain.specs.declared.statements.Statement.{Statement}
use Rattle.gen_chain.specs.Chain.{Chain, signed_path}
use Rattle.gen_chain.specs.Leaves.{leaf_of_order}
use Rattle.gen_chain.specs.Texts.{statement_digest}

-- The general is of the network, and the signature of the statement verifies under the general's root and the
-- order's leaf.
abbrev pub HasSigned : RunHeader → ℕ → Statement → List ℕ → Type 0
HasSigned h general statement signature =
    (general < h.network.generals)
    × Verifies (root_of h general) (height_of h) (leaf_of_order h statement.order)
    (statement_digest h statement) signature

-- the signer signed the order together with the path of the signers before it and itself
abbrev pub HasSignedBehind : RunHeader → ℕ → List Signer → Signer → Type 0
HasSignedBehind h order front s =
    HasSigned h s.general (record { order = order; path = signed_path front ++ s.general ∷ [] })
    s.signature

-- each signer signed the order together with the path up to and with itself
abbrev pub EachHasSigned : RunHeader → ℕ → List Signer → Type 0
EachHasSigned h order signers =
    (front back : List Signer) (s : Signer) → signers ≡ front ++ s ∷ back
    → HasSignedBehind h order front s

-- the order is one of the network's, and each signer signed
abbrev pub ChainVerifies : RunHeader → Chain → Type 0
ChainVerifies h c = (c.order < h.network.orders) × EachHasSigned h c.order c.signers

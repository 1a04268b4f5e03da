-- Tests whether a chain verifies.
use Rattle.std.specs.Prelude.{ℕ, ◌≡◌, ◌↔◌, Bool, true, ◌&&◌, List, [], ◌∷◌, ◌++◌, length, nat_lt, ◌==◌}
use Rattle.std.specs.Bool.{nat_eq}
use Rattle.std.specs.Cmp.Lexicographic.{pointwise}
use Rattle.gen_types.specs.declared.heights.TreeHeight.{TreeHeight}
use Rattle.gen_types.specs.Heights.{leaves_of}
use Rattle.gen_tree.specs.Signatures.{implied_root}
use Rattle.gen_tree.specs.Sizes.{signature_length}
use Rattle.gen_net.specs.Header as headers
use Rattle.gen_net.specs.Header.{RunHeader, height_of}
use Rattle.gen_chain.specs.declared.chains.Signer.{Signer}
use Rattle.gen_chain.specs.declared.statements.Statement.{Statement}
use Rattle.gen_chain.specs.Chain.{Chain}
use Rattle.gen_chain.specs.Leaves.{leaf_of_order}
use Rattle.gen_chain.specs.Texts.{statement_digest}
use Rattle.gen_chain.specs.Verifying.{ChainVerifies}

-- the signature of the digest by the leaf verifies under the root of a tree of this height
unfoldable pub is_under : List ℕ → TreeHeight → ℕ → List ℕ → List ℕ → Bool
is_under root height leaf digest signature =
    (length signature == signature_length height && nat_lt leaf (leaves_of height))
    && pointwise nat_eq (implied_root height leaf digest signature) root

-- the general is of the network, and signed the statement
unfoldable pub has_signed : RunHeader → ℕ → Statement → List ℕ → Bool
has_signed h general statement signature =
    nat_lt general h.network.generals
    && is_under (headers.root_of h general) (height_of h) (leaf_of_order h statement.order)
    (statement_digest h statement) signature

-- each of the signers after a path signed the order together with the path up to and with itself; and a whole
-- chain verifies
unfoldable pub are_signed : RunHeader → ℕ → List ℕ → List Signer → Bool
are_signed h order path [] = true
are_signed h order path (s ∷ others) =
    has_signed h s.general (record { order = order; path = path ++ s.general ∷ [] }) s.signature
    && are_signed h order (path ++ s.general ∷ []) others

unfoldable pub is_verified : RunHeader → Chain → Bool
is_verified h c = nat_lt c.order h.network.orders && are_signed h c.order [] c.signers

-- the test is exact: it is true if and only if the chain verifies
abbrev pub TestsVerifying : Type 0
TestsVerifying = (h : RunHeader) (c : Chain) → (is_verified h c ≡ true) ↔ ChainVerifies h c

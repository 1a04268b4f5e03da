-- What a store keeps of a chain.
use Rattle.std.specs.Prelude.{ℕ, zero, suc, ◌≡◌, ◌<◌, List, [], ◌∷◌, ◌++◌, IsSome}
use Rattle.gen_net.specs.Header.{RunHeader}
use Rattle.gen_chain.specs.declared.chains.Signer.{Signer}
use Rattle.gen_chain.specs.Chain.{Chain, signed_path}
use Rattle.gen_chain.specs.Verifying.{EachHasSigned}
use Rattle.gen_chain.specs.Signings.{triple_next}
use Rattle.gen_chain.specs.Store.{Store, Triple, answer_of}

-- the claim that the signer signed the order with the path of the signers before it and itself
abbrev pub triple_behind : ℕ → List Signer → Signer → Triple
triple_behind order front s = record {
  signer = s.general;
  statement = record { order = order; path = signed_path front ++ s.general ∷ [] };
  signature = s.signature;
}

-- the answer is kept for each signer whose predecessors all signed
abbrev pub KeepsSigners : RunHeader → Store → ℕ → List Signer → Type 0
KeepsSigners h store order signers =
    (front back : List Signer) (s : Signer) → signers ≡ front ++ s ∷ back → EachHasSigned h order front
    → IsSome (answer_of store (triple_behind order front s))

-- The store keeps all answers that verifying the chain needs; none is needed if the order is none of the
-- network's.
abbrev pub KeepsChain : RunHeader → Store → Chain → Type 0
KeepsChain h store c = c.order < h.network.orders → KeepsSigners h store c.order c.signers

-- the answers are kept for the first n of these signers, which come after a path
abbrev pub KeepsNext : Store → ℕ → ℕ → List ℕ → List Signer → Type 0
KeepsNext store order zero path signers = Unit {0}
KeepsNext store order (suc n) path [] = ⊥
KeepsNext store order (suc n) path (s ∷ signers) =
    IsSome (answer_of store (triple_next order path s))
    × KeepsNext store order n (path ++ s.general ∷ []) signers

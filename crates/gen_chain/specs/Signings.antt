-- The claims that the next signers of a chain signed.
use Rattle.std.specs.Prelude.{ℕ, ◌<◌, List, [], ◌∷◌, ◌++◌, length, slice_index_or}
use Rattle.gen_net.specs.Header.{RunHeader}
use Rattle.gen_chain.specs.declared.chains.Signer.{Signer}
use Rattle.gen_chain.specs.declared.signings.Signing.{Signing}
use Rattle.gen_chain.specs.Store.{Triple}
use Rattle.gen_chain.specs.Verifying.{HasSigned}

-- the triple that a claim is about
abbrev pub triple_of : Signing → Triple
triple_of s = record { signer = s.signer; statement = s.statement; signature = s.signature.now }

-- the general signed the statement with the signature
abbrev pub IsSigned : RunHeader → Triple → Type 0
IsSigned h t = HasSigned h t.signer t.statement t.signature

-- each of the triples is signed
abbrev pub AllSigned : RunHeader → List Triple → Type 0
AllSigned h ts = (j : ℕ) → j < length ts → (other : Triple) → IsSigned h (slice_index_or ts j other)

-- the claim about a signer that comes after a path: it signed the order with the path followed by itself
abbrev pub triple_next : ℕ → List ℕ → Signer → Triple
triple_next order path s = record {
  signer = s.general;
  statement = record { order = order; path = path ++ s.general ∷ [] };
  signature = s.signature;
}

-- the claims about signers that come after a path: each signed the order with the path up to and with itself
unfoldable pub next_triples : ℕ → List ℕ → List Signer → List Triple
next_triples order path [] = []
next_triples order path (s ∷ signers) =
    triple_next order path s ∷ next_triples order (path ++ s.general ∷ []) signers

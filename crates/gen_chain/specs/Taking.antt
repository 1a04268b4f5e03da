-- Answers that one store takes from another.
use Rattle.std.specs.Prelude.{ℕ, ◌≡◌, Bool, List, All, Some}
use Rattle.gen_chain.specs.declared.kept.Verified.{Verified}
use Rattle.gen_chain.specs.declared.kept.Kept.{Kept}
use Rattle.gen_chain.specs.Store.{Store, Triple, answer_of}

-- the answer that the other store has for a triple, if it has one, the new store has too
abbrev pub Takes : Store → Store → Triple → Type 0
Takes other new t = (answer : Bool) → answer_of other t ≡ Some answer → answer_of new t ≡ Some answer

-- the triple of a general and a statement, and a signature that is kept for them
abbrev pub triple_at : Verified → List ℕ → Triple
triple_at v signature = record { signer = v.signer; statement = v.statement; signature = signature }

-- the answers that the other store has for signatures that are kept for a general and a statement, the new
-- store has too
abbrev pub TakesEach : Store → Store → Verified → List Kept → Type 0
TakesEach other new v kept = All (λ k. Takes other new (triple_at v k.signature)) kept

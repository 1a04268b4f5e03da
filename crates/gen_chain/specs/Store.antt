-- Verifications with their kept answers, and the number of these.
use Rattle.std.specs.Prelude.{ℕ, ◌≡◌, ◌≢◌, ◌↔◌, ◌+◌, ◌-◌, ◌^◌, min, ◌==◌, ◌&&◌, if◌then◌else◌, Bool, true, List, [], AllPairs, length, Option, Some, is_some}
use Rattle.std.specs.Bool.{nat_eq}
use Rattle.std.specs.Cmp.Lexicographic.{pointwise}
use Rattle.std.specs.List.{find, sum_by}
use Rattle.std.specs.Map.{lookup, values_of}
use Rattle.std.specs.Option.{option_map, unwrap_or}
use Rattle.gen_net.specs.Header.{RunHeader}
use Rattle.gen_chain.specs.declared.kept.Verified.{Verified}
use Rattle.gen_chain.specs.declared.kept.Kept.{Kept}
use Rattle.gen_chain.specs.declared.statements.Statement.{Statement}
use Rattle.gen_chain.specs.Verifying.{HasSigned}

-- For each general and statement, the signatures that were verified, each with its answer.
pub record Store : Type 0 where
  pub kept : List (Verified × List Kept)

-- what is verified: that a general signed a statement with this signature
pub record Triple : Type 0 where
  pub signer : ℕ
  pub statement : Statement
  pub signature : List ℕ

-- the two statements are equal; and so are the two pairs of a general and a statement
abbrev pub is_statement : Statement → Statement → Bool
is_statement a b = a.order == b.order && pointwise nat_eq a.path b.path

abbrev pub same_verified : Verified → Verified → Bool
same_verified a b = a.signer == b.signer && is_statement a.statement b.statement

-- what is kept for a general and a statement; and the answer that is kept for a signature
abbrev pub kept_at : List (Verified × List Kept) → Verified → List Kept
kept_at kept verified = unwrap_or (lookup (same_verified verified) kept) []

abbrev pub answer_in : List Kept → List ℕ → Option Bool
answer_in kept signature =
    option_map (λ k. k.answer) (find (λ k. pointwise nat_eq k.signature signature) kept)

-- the answer that is kept for a triple, if there is one
unfoldable pub answer_of : Store → Triple → Option Bool
answer_of store t =
    answer_in (kept_at store.kept (record { signer = t.signer; statement = t.statement })) t.signature

-- no signature is kept twice for a general and a statement
abbrev pub KeepsOnce : Store → Type 0
KeepsOnce store =
    (verified : Verified) → AllPairs (λ a b. a.signature ≢ b.signature) (kept_at store.kept verified)

-- the number of kept answers
unfoldable pub kept_count : Store → ℕ
kept_count store = sum_by length (values_of store.kept)

-- The number of kept answers that the store counts, whatever calls were made. It stays at its last value,
-- 2^64 - 1.
abbrev pub runs_of : Store → ℕ
runs_of store = min (kept_count store) (2 ^ 64 - 1)

-- The store after a check: the triple is kept with the answer, and all others are as before. One more answer
-- is kept if and only if the triple was not kept before.
pub record IsAfter (old : Store) (t : Triple) (answer : Bool) (new : Store) : Type 0 where
  pub here : answer_of new t ≡ Some answer
  pub others : (u : Triple) → u ≢ t → answer_of new u ≡ answer_of old u
  pub count : kept_count new ≡ kept_count old + (if is_some (answer_of old t) then 0 else 1)

-- the new store keeps all that the old store keeps, with the same answers
abbrev pub KeepsAll : Store → Store → Type 0
KeepsAll old new =
    (t : Triple) (answer : Bool) → answer_of old t ≡ Some answer → answer_of new t ≡ Some answer

-- the store serves a header: each answer that it keeps is right under it
abbrev pub Serves : RunHeader → Store → Type 0
Serves h store =
    (t : Triple) (answer : Bool) → answer_of store t ≡ Some answer
    → (answer ≡ true) ↔ HasSigned h t.signer t.statement t.signature

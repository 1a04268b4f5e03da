-- Answers that one store takes from another.
use Rattle.std.proofs.Common.{arith, ◌≡◌, ◌↔◌, ◌<◌, ◌+◌, ℕ, suc, Bool, true, false, inl, inr, List, [], ◌∷◌, ◌++◌, append_assoc, Option, None, Some, refl, sym, ap, subst, ◌∙◌, slice_index_or}
use Rattle.std.specs.Prelude.{All, IsSome, nat_eq}
use Rattle.std.specs.Cmp.Lexicographic.{pointwise, bytes_decides}
use Rattle.std.specs.Global.{Vec}
use Rattle.std.proofs.lemmas.List.{append-nil}
use Rattle.std.proofs.lemmas.List.Elements.{All-push}
use Rattle.gen_types.proofs.Lists.{bool_cases}
use Rattle.gen_net.specs.Header.{RunHeader}
use Rattle.gen_chain.specs.declared.kept.Verified.{Verified}
use Rattle.gen_chain.specs.declared.kept.Kept.{Kept}
use Rattle.gen_chain.specs.Keeping.{items_of}
use Rattle.gen_chain.specs.Store.{Store, Triple, answer_in, answer_of, kept_at, same_verified, KeepsAll, Serves}
use Rattle.gen_chain.specs.Taking.{Takes, TakesEach, triple_at}
use Rattle.gen_chain.proofs.StoredInTurn.{before_or_at}
use Rattle.gen_chain.proofs.Storing.{one_verified}

-- two answers that are both right are the same
one_answer : (P : Type 0) (a b : Bool) → (a ≡ true) ↔ P → (b ≡ true) ↔ P → a ≡ b
one_answer P true true f g = refl
one_answer P false false f g = refl
one_answer P true false f g = sym (g.1 (f.0 refl))
one_answer P false true f g = f.1 (g.0 refl)

kept_same : (o : Option Bool) (answer : Bool) (P : Type 0) → IsSome o → ((x : Bool) → o ≡ Some x → (x ≡ true) ↔ P) → (answer ≡ true) ↔ P → o ≡ Some answer
kept_same (Some x) answer P some each right = ap Some (one_answer P x answer (each x refl) right)
kept_same None answer P some each right = absurd cc

-- what is kept of a triple at all is what another store that serves the same header has
pub taken : (h : RunHeader) (other new : Store) (t : Triple) → Serves h new → Serves h other → IsSome (answer_of new t) → Takes other new t
taken h other new t serves others some = λ answer e. kept_same (answer_of new t) answer _ some (λ x is. serves t x is) (others t answer e)

-- where it has none, there is none to take
pub none_taken : (other new : Store) (t : Triple) → answer_of other t ≡ None → Takes other new t
none_taken other new t none = λ answer e. absurd (no (answer_of other t) answer none e)
  where
    no : (o : Option Bool) (answer : Bool) → o ≡ None → o ≡ Some answer → ⊥
    no None answer none e = cc
    no (Some x) answer none e = cc

-- ---- signature by signature

-- those of the first of them
abbrev pub TakesFirst : Store → Store → Verified → List Kept → ℕ → Type 0
TakesFirst other new v kept n = (j : ℕ) (d : Kept) → j < n → Takes other new (triple_at v (slice_index_or kept j d).signature)

pub one_taken_more : (other old new : Store) (v : Verified) (kept : List Kept) (n : ℕ) → KeepsAll old new → ((d : Kept) → Takes other new (triple_at v (slice_index_or kept n d).signature))
    → TakesFirst other old v kept n → TakesFirst other new v kept (n + 1)
one_taken_more other old new v kept n grows here so_far j d below = elim (before_or_at j n below) [
  | inl before ↦ λ answer e. grows (triple_at v (slice_index_or kept j d).signature) answer (so_far j d before answer e)
  | inr same ↦ subst (λ i. Takes other new (triple_at v (slice_index_or kept i d).signature)) (sym same) (here d)
]

-- ---- entry by entry

abbrev pub TakesEntries : Store → Store → List (Verified × Vec Kept) → Type 0
TakesEntries other new es = All (λ (e : Verified × Vec Kept). TakesEach other new e.0 e.1.items) es

pub entries_grow : (other old new : Store) (es : List (Verified × Vec Kept)) → KeepsAll old new → TakesEntries other old es → TakesEntries other new es
entries_grow other old new es grows taken i e below j k inside answer is = grows _ answer (taken i e below j k inside answer is)

in_kept : (other new : Store) (v : Verified) (ks : List Kept) (signature : List ℕ) (answer x : Bool) → TakesEach other new v ks → answer_in ks signature ≡ Some x
    → answer_of other (triple_at v signature) ≡ Some answer → answer_of new (triple_at v signature) ≡ Some answer
in_kept other new v [] signature answer x taken found is = absurd cc
in_kept other new v (k ∷ ks) signature answer x taken found is = elim (bool_cases (pointwise nat_eq k.signature signature)) [
  | inl t ↦ subst (λ s. Takes other new (triple_at v s)) ((bytes_decides k.signature signature).0 t) (taken 0 k (omega arith)) answer is
  | inr f ↦ in_kept other new v ks signature answer x (λ j d below. taken (suc j) d (omega (arith, below))) (rw f at found) is
]

in_entries : (other new : Store) (v : Verified) (es : List (Verified × Vec Kept)) (signature : List ℕ) (answer x : Bool) → TakesEntries other new es → answer_in (kept_at (items_of es) v) signature ≡ Some x
    → answer_of other (triple_at v signature) ≡ Some answer → answer_of new (triple_at v signature) ≡ Some answer
in_entries other new v [] signature answer x taken found is = absurd cc
in_entries other new v (e ∷ es) signature answer x taken found is = elim (bool_cases (same_verified v e.0)) [
  | inl t ↦ in_kept other new v e.1.items signature answer x (subst (λ w. TakesEach other new w e.1.items) (sym (one_verified v e.0 t)) (taken 0 e (omega arith))) (rw t at found) is
  | inr f ↦ in_entries other new v es signature answer x (λ j d below. taken (suc j) d (omega (arith, below))) (rw f at found) is
]

pub all_taken : (other new : Store) (es : List (Verified × Vec Kept)) → other.kept ≡ items_of es → TakesEntries other new es → KeepsAll other new
unfolding answer_of
all_taken other new es whole taken t answer is =
    in_entries other new (record { signer = t.signer; statement = t.statement }) es t.signature answer answer taken (rw whole at is) is

-- the entries before these are taken
abbrev pub TakenUpTo : Store → Store → List (Verified × Vec Kept) → Type 0
TakenUpTo other new rest = (done : List (Verified × Vec Kept)) × (other.kept ≡ items_of (done ++ rest)) × TakesEntries other new done

pub entry_taken : (other old new : Store) (rest behind : List (Verified × Vec Kept)) (e : Verified × Vec Kept) → KeepsAll old new → rest ≡ e ∷ behind → TakesEach other new e.0 e.1.items
    → TakenUpTo other old rest → TakenUpTo other new behind
entry_taken other old new rest behind e grows is each so_far =
    let done = so_far.0 in (
      done ++ e ∷ [],
      so_far.1 ∙ ap (λ (r : List (Verified × Vec Kept)). items_of (done ++ r)) is ∙ ap items_of (sym (append_assoc done (e ∷ []) behind)),
      All-push (λ (x : Verified × Vec Kept). TakesEach other new x.0 x.1.items) done e (entries_grow other old new done grows so_far.2) each,
    )

pub taken_whole : (other new : Store) (rest : List (Verified × Vec Kept)) → rest ≡ [] → TakenUpTo other new rest → KeepsAll other new
taken_whole other new rest empty so_far =
    all_taken other new so_far.0 (so_far.1 ∙ ap (λ (r : List (Verified × Vec Kept)). items_of (so_far.0 ++ r)) empty ∙ ap items_of (append-nil so_far.0)) so_far.2

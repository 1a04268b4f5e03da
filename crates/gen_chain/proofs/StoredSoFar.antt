-- Signers one by one, as a store checks them: what it keeps of those who were looked at.
use Rattle.std.proofs.Common.{arith, ◌≡◌, ℕ, zero, suc, Bool, inl, inr, List, [], ◌∷◌, ◌++◌, Option, Some, None, refl, sym, ap, subst, ◌∙◌, append_assoc, slice_index_or, take, drop}
use Rattle.std.specs.Prelude.{◌⊎◌, ◌≤◌, ◌<◌, ◌+◌, ◌-◌, length, IsSome, is_some}
use Rattle.std.proofs.lemmas.List.{map-append, length-take-le, take-append-drop}
use Rattle.gen_types.proofs.Lists.{not_nil, split_longer}
use Rattle.gen_net.specs.Header.{RunHeader}
use Rattle.gen_chain.specs.declared.chains.Signer.{Signer}
use Rattle.gen_chain.specs.Chain.{signed_path}
use Rattle.gen_chain.specs.Verifying.{HasSigned, EachHasSigned}
use Rattle.gen_chain.specs.Signings.{triple_next, next_triples}
use Rattle.gen_chain.specs.Store.{Store, Triple, answer_of, kept_count, IsAfter, Serves, KeepsAll}
use Rattle.gen_chain.specs.StoredChain.{KeepsSigners, KeepsNext, triple_behind}
use Rattle.gen_chain.proofs.Storing.{count_after}
use Rattle.gen_chain.proofs.SignedSoFar.{SignedSoFar, none_signed, signed-push}

-- the store keeps the signature of each signer of the front
abbrev pub KeepsFront : Store → ℕ → List Signer → Type 0
KeepsFront store order front = (a b : List Signer) (s : Signer) → front ≡ a ++ s ∷ b → IsSome (answer_of store (triple_behind order a s))

-- How far a store has come: those in front of the rest have signed, it keeps their signatures and so many of those ahead, beside
-- what it kept before, and is as it was where it kept all that.
pub record StoredSoFar (h : RunHeader) (order : ℕ) (signers rest : List Signer) (path : List ℕ) (ahead : ℕ) (old store : Store) : Type 0 where
  pub front : List Signer
  pub parts : signers ≡ front ++ rest
  pub path_is : path ≡ signed_path front
  pub signed : EachHasSigned h order front
  pub kept : KeepsFront store order front
  pub serves : Serves h store
  pub grows : KeepsAll old store
  pub known : KeepsSigners h old order signers → store ≡ old
  pub next : KeepsNext store order ahead path rest
  pub count : kept_count store + length rest ≤ kept_count old + length signers + ahead

pub stored_first : (h : RunHeader) (order : ℕ) (signers : List Signer) (store : Store) → Serves h store → StoredSoFar h order signers signers [] 0 store store
stored_first h order signers store serves = record {
  front = [];
  parts = refl;
  path_is = refl;
  signed = none_signed h order;
  kept = λ a b s e. absurd (not_nil a s b (sym e));
  serves = serves;
  grows = λ t answer e. e;
  known = λ all. refl;
  next = tt;
  count = omega arith;
}

pub some_stays : (old new : Store) (t : Triple) → KeepsAll old new → IsSome (answer_of old t) → IsSome (answer_of new t)
some_stays old new t grows is = by (answer_of old t) refl is
  where
    by : (o : Option Bool) → answer_of old t ≡ o → IsSome o → IsSome (answer_of new t)
    by None e none = absurd cc
    by (Some answer) e some = ap is_some (grows t answer e)

-- ---- signatures ahead

zero_or_more : (n : ℕ) → (n ≡ 0) ⊎ (0 < n)
zero_or_more zero = inl refl
zero_or_more (suc n) = inr (omega arith)

next_stays : (old new : Store) (order n : ℕ) (path : List ℕ) (rest : List Signer) → KeepsAll old new → KeepsNext old order n path rest → KeepsNext new order n path rest
next_stays old new order zero path rest grows next = tt
next_stays old new order (suc n) path [] grows next = absurd next
next_stays old new order (suc n) path (s ∷ rest) grows next =
    (some_stays old new (triple_next order path s) grows next.0, next_stays old new order n (path ++ s.general ∷ []) rest grows next.1)

pub next_few : (store : Store) (order n : ℕ) (path : List ℕ) (rest : List Signer) → KeepsNext store order n path rest → n ≤ length rest
next_few store order zero path rest next = omega arith
next_few store order (suc n) path [] next = absurd next
next_few store order (suc n) path (s ∷ rest) next = omega (arith, next_few store order n (path ++ s.general ∷ []) rest next.1)

-- one signer on
next_on : (store : Store) (order n left : ℕ) (path : List ℕ) (s : Signer) (rest : List Signer) → left ≡ n - 1 → KeepsNext store order n path (s ∷ rest) → KeepsNext store order left (path ++ s.general ∷ []) rest
next_on store order zero left path s rest e next = let none : left ≡ 0 = omega (arith, e) in subst (λ k. KeepsNext store order k (path ++ s.general ∷ []) rest) (sym none) tt
next_on store order (suc n) left path s rest e next = let one : left ≡ n = omega (arith, e) in subst (λ k. KeepsNext store order k (path ++ s.general ∷ []) rest) (sym one) next.1

-- of one ahead the signature is kept
next_is : (store : Store) (order n : ℕ) (path : List ℕ) (s : Signer) (rest : List Signer) → 0 < n → KeepsNext store order n path (s ∷ rest) → IsSome (answer_of store (triple_next order path s))
next_is store order zero path s rest some next = absurd (omega (arith, some))
next_is store order (suc n) path s rest some next = next.0

-- each of some signers
pub keeps_next : (store : Store) (order : ℕ) (path : List ℕ) (some others : List Signer)
    → ((j : ℕ) → j < length some → (other : Triple) → IsSome (answer_of store (slice_index_or (next_triples order path some) j other)))
    → KeepsNext store order (length some) path (some ++ others)
unfolding next_triples
keeps_next store order path [] others all = tt
keeps_next store order path (s ∷ some) others all =
    (all 0 (omega arith) (triple_next order path s), keeps_next store order (path ++ s.general ∷ []) some others (λ j below other. all (suc j) (omega (arith, below)) other))

-- the next four
pub keeps_four : (store : Store) (order : ℕ) (path : List ℕ) (rest : List Signer) (triples : List Triple) → 4 ≤ length rest → triples ≡ next_triples order path (take 4 rest)
    → ((j : ℕ) → j < 4 → (other : Triple) → IsSome (answer_of store (slice_index_or triples j other)))
    → KeepsNext store order 4 path rest
keeps_four store order path rest triples many are all =
    let count : length (take 4 rest) ≡ 4 = length-take-le 4 rest many in
    let kept = keeps_next store order path (take 4 rest) (drop 4 rest) (λ j below other.
    subst (λ ts. IsSome (answer_of store (slice_index_or ts j other))) are (all j (omega (arith, below, count)) other)) in
    subst (λ n. KeepsNext store order n path rest) count (subst (λ r. KeepsNext store order (length (take 4 rest)) path r) (take-append-drop 4 rest) kept)

-- where no answer is kept for the first of the next four, none is kept for the next signer
pub first_unknown : (store : Store) (order : ℕ) (path : List ℕ) (rest others : List Signer) (s : Signer) (triples : List Triple) → triples ≡ next_triples order path (take 4 rest)
    → ((other : Triple) → answer_of store (slice_index_or triples 0 other) ≡ None) → rest ≡ s ∷ others → IsSome (answer_of store (triple_next order path s)) → ⊥
unfolding next_triples
first_unknown store order path rest others s triples are none e is =
    let first : triples ≡ triple_next order path s ∷ next_triples order (path ++ s.general ∷ []) (take 3 others) = are ∙ ap (λ r. next_triples order path (take 4 r)) e in
    let absent : answer_of store (triple_next order path s) ≡ None = subst (λ ts. answer_of store (slice_index_or ts 0 (triple_next order path s)) ≡ None) first (none (triple_next order path s)) in
    let no : is_some (answer_of store (triple_next order path s)) ≡ is_some {T = Bool} None = ap is_some absent in
    absurd cc

-- the store has the next signature too
front_push : (store : Store) (order : ℕ) (front : List Signer) (s : Signer) → KeepsFront store order front → IsSome (answer_of store (triple_behind order front s)) → KeepsFront store order (front ++ s ∷ [])
front_push store order front s kept is a b t e = elim (split_longer a b front t s (sym e)) [
  | inl both ↦ subst (λ (y : Signer). IsSome (answer_of store (triple_behind order a y))) (sym both.0) (subst (λ (f : List Signer). IsSome (answer_of store (triple_behind order f s))) (sym both.1) is)
  | inr inside ↦ kept a inside.0 t inside.1
]

-- Where a list ends in the rest, one of its members is in front of the rest or in it.
split_rest : {X : Type 0} (front rest a b : List X) (t : X) → a ++ t ∷ b ≡ front ++ rest → ((c : List X) × (front ≡ a ++ t ∷ c)) ⊎ ((d : List X) × (a ≡ front ++ d) × (rest ≡ d ++ t ∷ b))
split_rest [] rest a b t e = inr (a, refl, sym e)
split_rest (x ∷ front) rest [] b t e = let same : x ≡ t = cc in inl (front, ap (λ y. y ∷ front) same)
split_rest (x ∷ front) rest (y ∷ a) b t e =
    let same : x ≡ y = cc in
    let tail : a ++ t ∷ b ≡ front ++ rest = cc in
    elim (split_rest front rest a b t tail) [
      | inl i ↦ inl (i.0, λ j. same j ∷ i.1 j)
      | inr i ↦ inr (i.0, (λ j. sym same j ∷ i.1 j), i.2)
    ]

module _ (h : RunHeader) (order : ℕ) (longer : List ℕ) (store : Store) (s : Signer) where
  -- what is checked next
  abbrev pub next_triple : Triple
  next_triple = record { signer = s.general; statement = record { order = order; path = longer }; signature = s.signature }

  -- how a check changes the store: the triple is kept, and where it was kept the store stays
  pub record Checks (new : Store) : Type 0 where
    pub is : IsSome (answer_of new next_triple)
    pub grows : KeepsAll store new
    pub serves : Serves h new
    pub known : IsSome (answer_of store next_triple) → new ≡ store
    pub count : kept_count new ≤ kept_count store + 1

  module _ (signers rest others : List Signer) (path : List ℕ) (ahead : ℕ) (old : Store) (so_far : StoredSoFar h order signers rest path ahead old store) (e : rest ≡ s ∷ others) (pushed : longer ≡ path ++ s.general ∷ []) where
    parts_next : signers ≡ so_far.front ++ s ∷ others
    parts_next = so_far.parts ∙ ap (λ (r : List Signer). so_far.front ++ r) e

    path_next : longer ≡ signed_path so_far.front ++ s.general ∷ []
    path_next = pushed ∙ ap (λ (p : List ℕ). p ++ s.general ∷ []) so_far.path_is

    same_triple : triple_behind order so_far.front s ≡ next_triple
    same_triple = λ i. record { signer = s.general; statement = record { order = order; path = sym path_next i }; signature = s.signature }

    -- a store that kept everything has the next signature
    pub next_known : KeepsSigners h old order signers → IsSome (answer_of store next_triple)
    next_known all =
        let was = all so_far.front others s parts_next so_far.signed in
        subst (λ (t : Triple). IsSome (answer_of store t)) same_triple (some_stays old store (triple_behind order so_far.front s) so_far.grows was)

    module _ (new : Store) (checks : Checks new) where
      kept_next : KeepsFront new order (so_far.front ++ s ∷ [])
      kept_next =
          front_push new order so_far.front s (λ a b t p. some_stays store new (triple_behind order a t) checks.grows (so_far.kept a b t p))
          (subst (λ (t : Triple). IsSome (answer_of new t)) (sym same_triple) checks.is)

      pub grown_next : KeepsAll old new
      grown_next t answer is = checks.grows t answer (so_far.grows t answer is)

      pub known_next : KeepsSigners h old order signers → new ≡ old
      known_next all = checks.known (next_known all) ∙ so_far.known all

      next_kept : KeepsNext store order ahead path (s ∷ others)
      next_kept = subst (KeepsNext store order ahead path) e so_far.next

      -- what is ahead is not verified again
      is_known : 0 < ahead → kept_count new ≡ kept_count store
      is_known some =
          let is = next_is store order ahead path s others some next_kept in
          let here : triple_next order path s ≡ next_triple = λ i. record { signer = s.general; statement = record { order = order; path = sym pushed i }; signature = s.signature } in
          ap kept_count (checks.known (subst (λ (t : Triple). IsSome (answer_of store t)) here is))

      pub count_next : (left : ℕ) → left ≡ ahead - 1 → kept_count new + length others ≤ kept_count old + length signers + left
      count_next left less = elim (zero_or_more ahead) [
        | inl none ↦ omega (arith, so_far.count, checks.count, ap length e, less, none)
        | inr some ↦ omega (arith, so_far.count, is_known some, ap length e, less, some)
      ]

      next_left : (left : ℕ) → left ≡ ahead - 1 → KeepsNext new order left longer others
      next_left left less =
          let on = next_on store order ahead left path s others less next_kept in
          next_stays store new order left longer others checks.grows (subst (λ (p : List ℕ). KeepsNext store order left p others) (sym pushed) on)

      pub count_stop : kept_count new ≤ kept_count old + length signers
      count_stop =
          let left : (k : ℕ) × (k ≡ ahead - 1) = (ahead - 1, refl) in
          omega (arith, count_next left.0 left.1, next_few new order left.0 longer others (next_left left.0 left.1))

      pub stored_on : (left : ℕ) → left ≡ ahead - 1 → HasSigned h s.general (record { order = order; path = longer }) s.signature → StoredSoFar h order signers others longer left old new
      stored_on left less signed = record {
        front = so_far.front ++ s ∷ [];
        parts = parts_next ∙ sym (append_assoc so_far.front (s ∷ []) others);
        path_is = path_next ∙ sym (map-append (λ (t : Signer). t.general) so_far.front (s ∷ []));
        signed = signed-push h order so_far.front s so_far.signed (subst (λ (p : List ℕ). HasSigned h s.general (record { order = order; path = p }) s.signature) path_next signed);
        kept = kept_next;
        serves = checks.serves;
        grows = grown_next;
        known = known_next;
        next = next_left left less;
        count = count_next left less;
      }

      module _ (unsigned : HasSigned h s.general (record { order = order; path = longer }) s.signature → ⊥) where
        fails_behind : (a d : List Signer) → a ≡ so_far.front ++ s ∷ d → EachHasSigned h order a → ⊥
        fails_behind a d is all = unsigned (subst (λ (p : List ℕ). HasSigned h s.general (record { order = order; path = p }) s.signature) (sym path_next) (all so_far.front d s is))

        pub stored_stop : (EachHasSigned h order signers → ⊥) × KeepsSigners h new order signers
        stored_stop = (fails_behind signers others parts_next, keeps)
          where
            keeps : KeepsSigners h new order signers
            keeps a b t split signed = elim (split_rest (so_far.front ++ s ∷ []) others a b t (sym split ∙ (parts_next ∙ sym (append_assoc so_far.front (s ∷ []) others)))) [
              | inl i ↦ kept_next a i.0 t i.1
              | inr j ↦ absurd (fails_behind a j.0 (j.1 ∙ append_assoc so_far.front (s ∷ []) j.0) signed)
            ]

-- The store after it has looked ahead, which changes nothing where it knows the next signature.
module _ (h : RunHeader) (order : ℕ) (signers rest others : List Signer) (path : List ℕ) (ahead : ℕ) (old store : Store) (s : Signer) (so_far : StoredSoFar h order signers rest path ahead old store) (e : rest ≡ s ∷ others)
    (new : Store) (stays : IsSome (answer_of store (triple_next order path s)) → new ≡ store) where
  pub ahead_known : KeepsSigners h old order signers → IsSome (answer_of store (triple_next order path s))
  ahead_known = next_known h order (path ++ s.general ∷ []) store s signers rest others path ahead old so_far e refl

  pub stored_ahead : (next : ℕ) → KeepsNext new order next path rest × (kept_count new + ahead ≤ kept_count store + next) → KeepsAll store new → Serves h new → StoredSoFar h order signers rest path next old new
  stored_ahead next is grows serves = record {
    front = so_far.front;
    parts = so_far.parts;
    path_is = so_far.path_is;
    signed = so_far.signed;
    kept = λ a b t p. some_stays store new (triple_behind order a t) grows (so_far.kept a b t p);
    serves = serves;
    grows = λ t answer kept. grows t answer (so_far.grows t answer kept);
    known = λ all. stays (ahead_known all) ∙ so_far.known all;
    next = is.0;
    count = omega (arith, so_far.count, is.1);
  }

pub signed_so_far : (h : RunHeader) (order : ℕ) (signers rest : List Signer) (path : List ℕ) (ahead : ℕ) (old store : Store) → StoredSoFar h order signers rest path ahead old store → SignedSoFar h order signers rest path
signed_so_far h order signers rest path ahead old store so_far = record { front = so_far.front; parts = so_far.parts; path_is = so_far.path_is; signed = so_far.signed }

pub with_some : {X : Type 0} (o : Option X) (P : Type 0) → ((x : X) → o ≡ Some x → P) → IsSome o → P
with_some None P f is = absurd cc
with_some (Some x) P f is = f x refl

-- what a check says of the store
pub checks_of : (h : RunHeader) (order : ℕ) (longer : List ℕ) (store : Store) (s : Signer) (new : Store) (answer : Bool) (R : Bool → Type 0)
    → IsAfter store (next_triple h order longer store s) answer new → KeepsAll store new → Serves h new
    → ((b : Bool) → answer_of store (next_triple h order longer store s) ≡ Some b → R b × (new ≡ store))
    → Checks h order longer store s new
checks_of h order longer store s new answer R after grows serves known = record {
  is = ap is_some after.here;
  grows = grows;
  serves = serves;
  known = with_some (answer_of store (next_triple h order longer store s)) (new ≡ store) (λ b e. (known b e).1);
  count = count_after store new (next_triple h order longer store s) answer after;
}

-- What is asked of logs is decided, so what isn't found wrong is right.
use Rattle.std.proofs.Common.{◌≡◌, ℕ, ◌<◌, ◌⊎◌, inl, inr, List, [], ◌∷◌, ◌++◌, length, Contains, All, refl, sym, ap, ◌∙◌, subst, arith, append_assoc}
use Rattle.std.proofs.lemmas.Bool.{cases_eq, cases_lt}
use Rattle.std.proofs.lemmas.List.Elements.{All-head, All-tail, All-cons}
use Rattle.gen_types.proofs.Lists.{decide_contains, decide_some, below_or_least}
use Rattle.gen_net.specs.Network.{Network, IsLoyal}
use Rattle.gen_types.specs.Ends.{BeginsWith}
use Rattle.gen_net.specs.Log.{LogEntry, Started, Signed, Sent, Received, Decided}
use Rattle.gen_scenario.proofs.Agree.{decide_loyal}
use Rattle.gen_audit.proofs.Fit.{LogDerivation}

-- whether something holds
abbrev pub Dec : Type 0 → Type 0
Dec P = P ⊎ (P → ⊥)

pub both : (P Q : Type 0) → Dec P → Dec Q → Dec (P × Q)
both P Q (inl p) (inl q) = inl (p, q)
both P Q (inl p) (inr nq) = inr (λ h. nq h.1)
both P Q (inr np) q = inr (λ h. np h.0)

pub both3 : (P Q R : Type 0) → Dec P → Dec Q → Dec R → Dec (P × Q × R)
both3 P Q R (inl p) (inl q) (inl r) = inl (p, q, r)
both3 P Q R (inl p) (inl q) (inr nr) = inr (λ h. nr h.2)
both3 P Q R (inl p) (inr nq) r = inr (λ h. nq h.1)
both3 P Q R (inr np) q r = inr (λ h. np h.0)

pub both4 : (P Q R S : Type 0) → Dec P → Dec Q → Dec R → Dec S → Dec (P × Q × R × S)
both4 P Q R S (inl p) (inl q) (inl r) (inl s) = inl (p, q, r, s)
both4 P Q R S (inl p) (inl q) (inl r) (inr ns) = inr (λ h. ns h.3)
both4 P Q R S (inl p) (inl q) (inr nr) s = inr (λ h. nr h.2)
both4 P Q R S (inl p) (inr nq) r s = inr (λ h. nq h.1)
both4 P Q R S (inr np) q r s = inr (λ h. np h.0)

pub same_path : (xs ys : List ℕ) → Dec (xs ≡ ys)
same_path [] [] = inl refl
same_path [] (y ∷ ys) = inr (λ e. cc)
same_path (x ∷ xs) [] = inr (λ e. cc)
same_path (x ∷ xs) (y ∷ ys) = elim (cases_eq x y) [
  | inr ne ↦ inr (λ e. let h : x ≡ y = cc in ne h)
  | inl e ↦ elim (same_path xs ys) [
    | inr ne ↦ inr (λ f. let h : xs ≡ ys = cc in ne h)
    | inl f ↦ inl (cc)
  ]
]

is_sent : (to v : ℕ) (path : List ℕ) (e : LogEntry) → Dec (Sent to v path ≡ e)
is_sent to v path (Started general own) = inr (λ e. cc)
is_sent to v path (Signed order other) = inr (λ e. cc)
is_sent to v path (Sent to' v' path') = elim (both (to ≡ to') ((v ≡ v') × (path ≡ path')) (cases_eq to to') (both (v ≡ v') (path ≡ path') (cases_eq v v') (same_path path path'))) [
  | inl h ↦ inl (let a = h.0 in let b = h.1.0 in let c = h.1.1 in cc)
  | inr ne ↦ inr (λ e. let a : to ≡ to' = cc in let b : v ≡ v' = cc in let c : path ≡ path' = cc in ne (a, (b, c)))
]
is_sent to v path (Received from order other) = inr (λ e. cc)
is_sent to v path (Decided orders order) = inr (λ e. cc)

is_received : (from v : ℕ) (path : List ℕ) (e : LogEntry) → Dec (Received from v path ≡ e)
is_received from v path (Started general own) = inr (λ e. cc)
is_received from v path (Signed order other) = inr (λ e. cc)
is_received from v path (Sent to order other) = inr (λ e. cc)
is_received from v path (Received from' v' path') = elim (both (from ≡ from') ((v ≡ v') × (path ≡ path')) (cases_eq from from') (both (v ≡ v') (path ≡ path') (cases_eq v v') (same_path path path'))) [
  | inl h ↦ inl (let a = h.0 in let b = h.1.0 in let c = h.1.1 in cc)
  | inr ne ↦ inr (λ e. let a : from ≡ from' = cc in let b : v ≡ v' = cc in let c : path ≡ path' = cc in ne (a, (b, c)))
]
is_received from v path (Decided orders order) = inr (λ e. cc)

pub in_list : (e : LogEntry) → ((f : LogEntry) → Dec (e ≡ f)) → (log : List LogEntry) → Dec (Contains log e)
in_list e same log = elim (decide_some (λ f. e ≡ f) same log) [
  | inl s ↦ inl (subst (λ f. Contains log f) (sym s.2) s.1)
  | inr none ↦ inr (λ h. none e h refl)
]

pub has_sent : (log : List LogEntry) (to v : ℕ) (path : List ℕ) → Dec (Contains log (Sent to v path))
has_sent log to v path = in_list (Sent to v path) (is_sent to v path) log

pub has_received : (log : List LogEntry) (from v : ℕ) (path : List ℕ) → Dec (Contains log (Received from v path))
has_received log from v path = in_list (Received from v path) (is_received from v path) log

pub begins_with : (path front : List ℕ) → Dec (BeginsWith path front)
begins_with path [] = inl (path, refl)
begins_with [] (y ∷ front) = inr (λ h. absurd (omega (arith, ap length h.1)))
begins_with (x ∷ path) (y ∷ front) = elim (cases_eq x y) [
  | inr ne ↦ inr (λ h. let e : x ∷ path ≡ y ∷ (front ++ h.0) = h.1 in let f : x ≡ y = cc in ne f)
  | inl e ↦ elim (begins_with path front) [
    | inl h ↦ inl (h.0, let f : path ≡ front ++ h.0 = h.1 in cc)
    | inr none ↦ inr (λ h. let f : x ∷ path ≡ y ∷ (front ++ h.0) = h.1 in let q : path ≡ front ++ h.0 = cc in none (h.0, q))
  ]
]

pub all_dec : (P : ℕ → Type 0) → ((n : ℕ) → Dec (P n)) → (xs : List ℕ) → Dec (All P xs)
all_dec P dec [] = inl (λ i d l. absurd (omega arith))
all_dec P dec (x ∷ xs) = elim (dec x) [
  | inr np ↦ inr (λ all. np (All-head P x xs all))
  | inl p ↦ elim (all_dec P dec xs) [
    | inr none ↦ inr (λ all. none (All-tail P x xs all))
    | inl all ↦ inl (All-cons P x xs p all)
  ]
]

pub not_dec : (P : Type 0) → Dec P → Dec (P → ⊥)
not_dec P (inl p) = inr (λ none. none p)
not_dec P (inr none) = inl none

-- whether some position in a list, with what stands before and behind it, is as asked
pub record SomePosition {X : Type 0} (Q : List X → X → List X → Type 0) (xs : List X) : Type 0 where
  pub front : List X
  pub here : X
  pub behind : List X
  pub parts : xs ≡ front ++ here ∷ behind
  pub holds : Q front here behind

pub some_position : {X : Type 0} (Q : List X → X → List X → Type 0) → ((front : List X) (here : X) (behind : List X) → Dec (Q front here behind)) → (xs : List X) → Dec (SomePosition Q xs)
some_position {X} Q dec [] = inr (λ s. none s.front s.here s.behind s.parts)
  where
    none : (front : List X) (here : X) (behind : List X) → [] ≡ front ++ here ∷ behind → ⊥
    none [] here behind e = cc
    none (x ∷ front) here behind e = cc
some_position {X} Q dec (x ∷ xs) = elim (dec [] x xs) [
  | inl q ↦ inl (record { front = []; here = x; behind = xs; parts = refl; holds = q })
  | inr first ↦ elim (some_position (λ front here behind. Q (x ∷ front) here behind) (λ front here behind. dec (x ∷ front) here behind) xs) [
    | inl s ↦ inl (record { front = x ∷ s.front; here = s.here; behind = s.behind; parts = ap (λ p. x ∷ p) s.parts; holds = s.holds })
    | inr later ↦ inr (λ s. apart first later s.front s.here s.behind s.parts s.holds)
  ]
]
  where
    apart : (Q [] x xs → ⊥) → (SomePosition (λ front here behind. Q (x ∷ front) here behind) xs → ⊥) → (front : List X) (here : X) (behind : List X) → x ∷ xs ≡ front ++ here ∷ behind → Q front here behind → ⊥
    apart first later [] here behind e q =
        let a : x ≡ here = cc in
        let b : xs ≡ behind = cc in
        first (subst (λ y. Q [] y xs) (sym a) (subst (λ p. Q [] here p) (sym b) q))
    apart first later (y ∷ front) here behind e q =
        let a : x ≡ y = cc in
        let b : xs ≡ front ++ here ∷ behind = cc in
        later (record { front = front; here = here; behind = behind; parts = b; holds = subst (λ z. Q (z ∷ front) here behind) (sym a) q })

module _ (net : Network) (faulty : List ℕ) (logs : ℕ → List LogEntry) (v : ℕ) (path : List ℕ) where
  -- a SEND of v from g, shorter than the path, to one of the faulty, whose path begins so
  abbrev IsSource : List ℕ → ℕ → LogEntry → Type 0
  IsSource front last (Sent to order source) = (order ≡ v) × Contains faulty to × (length source < length path) × BeginsWith source (front ++ last ∷ [])
  IsSource front last (Started general own) = ⊥
  IsSource front last (Signed order source) = ⊥
  IsSource front last (Received from order source) = ⊥
  IsSource front last (Decided orders order) = ⊥

  is_source : (front : List ℕ) (last : ℕ) (e : LogEntry) → Dec (IsSource front last e)
  is_source front last (Sent to order source) = both4 (order ≡ v) (Contains faulty to) (length source < length path) (BeginsWith source (front ++ last ∷ []))
      (cases_eq order v) (decide_contains faulty to) (less (length source) (length path)) (begins_with source (front ++ last ∷ []))
    where
      less : (a b : ℕ) → Dec (a < b)
      less a b = elim (cases_lt a b) [ inl l ↦ inl l | inr m ↦ inr (λ l. omega arith) ]
  is_source front last (Started general own) = inr (λ h. h)
  is_source front last (Signed order source) = inr (λ h. h)
  is_source front last (Received from order source) = inr (λ h. h)
  is_source front last (Decided orders order) = inr (λ h. h)

  abbrev HasSource : List ℕ → ℕ → ℕ → Type 0
  HasSource front last g = IsLoyal net faulty g × ((e : LogEntry) × Contains (logs g) e × IsSource front last e)

  has_source : (front : List ℕ) (last g : ℕ) → Dec (HasSource front last g)
  has_source front last g = both (IsLoyal net faulty g) ((e : LogEntry) × Contains (logs g) e × IsSource front last e) (decide_loyal net faulty g)
      (elim (decide_some (IsSource front last) (is_source front last) (logs g)) [ inl s ↦ inl s | inr none ↦ inr (λ s. none s.0 s.1 s.2) ])

  some_source : (front : List ℕ) (last : ℕ) → Dec ((g : ℕ) × HasSource front last g)
  some_source front last = elim (below_or_least (HasSource front last) (has_source front last) net.generals) [
    | inl none ↦ inr (λ s. none s.0 s.1.0.0 s.1)
    | inr s ↦ inl (s.0, s.2)
  ]

  abbrev IsForgedFrom : List ℕ → ℕ → List ℕ → Type 0
  IsForgedFrom front last forged = IsLoyal net faulty last × All (λ g. IsLoyal net faulty g → ⊥) forged × ((g : ℕ) × HasSource front last g)

  is_forged_from : (front : List ℕ) (last : ℕ) (forged : List ℕ) → Dec (IsForgedFrom front last forged)
  is_forged_from front last forged = both3 (IsLoyal net faulty last) (All (λ g. IsLoyal net faulty g → ⊥) forged) ((g : ℕ) × HasSource front last g)
      (decide_loyal net faulty last) (all_dec (λ g. IsLoyal net faulty g → ⊥) (λ g. not_dec (IsLoyal net faulty g) (decide_loyal net faulty g)) forged) (some_source front last)

  derivation_of : (front : List ℕ) (last : ℕ) (forged : List ℕ) → path ≡ front ++ last ∷ forged → IsLoyal net faulty last → All (λ g. IsLoyal net faulty g → ⊥) forged → (g : ℕ) → IsLoyal net faulty g → (e : LogEntry) → Contains (logs g) e → IsSource front last e → LogDerivation net faulty logs v path
  derivation_of front last forged parts loyal nobody g from_rest (Sent to order source) h s = record {
    front = front;
    last = last;
    after = forged;
    parts = parts ∙ sym (append_assoc front (last ∷ []) forged);
    last_loyal = loyal;
    nobody_after = nobody;
    from = g;
    to = to;
    source = source;
    from_rest = from_rest;
    to_faulty = s.1;
    sent = subst (λ w. Contains (logs g) (Sent to w source)) s.0 h;
    earlier = s.2;
    begun = s.3;
  }
  derivation_of front last forged parts loyal nobody g from_rest (Started general own) h s = absurd s
  derivation_of front last forged parts loyal nobody g from_rest (Signed order source) h s = absurd s
  derivation_of front last forged parts loyal nobody g from_rest (Received from order source) h s = absurd s
  derivation_of front last forged parts loyal nobody g from_rest (Decided orders order) h s = absurd s

  pub is_derivable : Dec (All (λ g. IsLoyal net faulty g → ⊥) path ⊎ LogDerivation net faulty logs v path)
  is_derivable = elim (all_dec (λ g. IsLoyal net faulty g → ⊥) (λ g. not_dec (IsLoyal net faulty g) (decide_loyal net faulty g)) path) [
    | inl nobody ↦ inl (inl nobody)
    | inr somebody ↦ elim (some_position IsForgedFrom is_forged_from path) [
      | inl s ↦ inl (inr (derivation_of s.front s.here s.behind s.parts s.holds.0 s.holds.1 s.holds.2.0 s.holds.2.1.0 s.holds.2.1.1.0 s.holds.2.1.1.1 s.holds.2.1.1.2))
      | inr none ↦ inr (λ d. elim d [
        | inl nobody ↦ somebody nobody
        | inr d ↦ none (record {
          front = d.front;
          here = d.last;
          behind = d.after;
          parts = d.parts ∙ append_assoc d.front (d.last ∷ []) d.after;
          holds = (d.last_loyal, d.nobody_after, (d.from, (d.from_rest, (Sent d.to v d.source, d.sent, (refl, d.to_faulty, d.earlier, d.begun)))));
        })
      ])
    ]
  ]

-- The rest, and the keys of what they sent.
use Rattle.std.proofs.Common.{◌≡◌, ◌↔◌, ◌⊎◌, ◌<◌, ◌+◌, ℕ, Bool, true, false, not, cond, nat_lt, IsTrue, inl, inr, List, [], ◌∷◌, ◌++◌, length, Contains, Option, Some, None, refl, sym, ap, ◌∙◌, subst, arith, append_assoc}
use Rattle.std.specs.List.{flat_map, range_with_len, AllByRecursion}
use Rattle.std.specs.Option.{unwrap_or}
use Rattle.std.proofs.lemmas.Bool.{cases_eq, ltb-true, lt-ltb}
use Rattle.std.proofs.lemmas.List.{append-nil, flat_map_more}
use Rattle.std.proofs.lemmas.List.Elements.{All-from_recursion, All-contains}
use Rattle.gen_types.specs.Ends.{is_among}
use Rattle.gen_types.specs.Members.{range_more}
use Rattle.gen_types.proofs.Among.{among_in, in_among, among_out, out_among}
use Rattle.gen_types.proofs.Lists.{Contains_nil, Contains_flat_mapped, Contains_in_range, bool_cases}
use Rattle.gen_core.proofs.OrderedLists.{in_flat_map}
use Rattle.gen_net.specs.Network.{Network, IsLoyal}
use Rattle.gen_net.specs.Log.{LogEntry, Started, Signed, Sent, Received, Decided}
use Rattle.gen_log.specs.declared.entries.Entry.{Entry}
use Rattle.gen_log.specs.declared.entries.Entry.TheVariants.{Send}
use Rattle.gen_log.specs.Entry.{erase}
use Rattle.gen_match.specs.Matching.{Logs, Logged}
use Rattle.gen_match.specs.Prefixes.{path_number, source_key, begin_keys}
use Rattle.gen_match.specs.Rest.{is_rest, rest_entries, over_rest, IsSmall, AreSmall}
use Rattle.gen_match.specs.Underivables.{entry_keys, rest_keys}
use Rattle.gen_match.proofs.Keys.{and_split, begin_in, begin_out}

-- ---- who is of the rest

pub same_test : (b : Bool) (xs : List ℕ) (x : ℕ) → (IsTrue b ↔ Contains xs x) → b ≡ is_among xs x
same_test b xs x told = elim (bool_cases b) [
  | inl t ↦ t ∙ sym (in_among xs x (told.0 t))
  | inr f ↦ f ∙ sym (out_among xs x (λ h. let t : b ≡ true = told.1 h in absurd cc))
]

pub rest_told : (net : Network) (faulty : List ℕ) (g : ℕ) (b : Bool) → g < net.generals → (IsTrue b ↔ Contains faulty g) → not b ≡ is_rest net faulty g
rest_told net faulty g b below told = rw (lt-ltb g net.generals below) (ap not (same_test b faulty g told))

true_not : (b : Bool) → not b ≡ true → b ≡ false
true_not true e = absurd cc
true_not false e = refl

pub loyal_from : (net : Network) (faulty : List ℕ) (g : ℕ) → is_rest net faulty g ≡ true → IsLoyal net faulty g
loyal_from net faulty g e =
    let r = and_split (nat_lt g net.generals) (not (is_among faulty g)) e in
    (ltb-true g net.generals r.0, among_out faulty g (true_not (is_among faulty g) r.1))

pub rest_from : (net : Network) (faulty : List ℕ) (g : ℕ) → IsLoyal net faulty g → is_rest net faulty g ≡ true
rest_from net faulty g l = rw (lt-ltb g net.generals l.0, out_among faulty g l.1) refl

-- ---- entries of the rest

pub logged_in : (net : Network) (faulty : List ℕ) (logs : Logs) (g : ℕ) (e : LogEntry) → IsLoyal net faulty g → Logged logs g e → Contains (rest_entries net faulty logs g) e
logged_in net faulty logs g e l h = subst (λ b. Contains (cond b (unwrap_or (logs g) []) []) e) (sym (rest_from net faulty g l)) (subst (λ o. Contains (unwrap_or o []) e) (sym h.1) h.2)

option_cases : {X : Type 0} (o : Option X) → (o ≡ None) ⊎ ((x : X) × (o ≡ Some x))
option_cases None = inl refl
option_cases (Some x) = inr (x, refl)

pub logged_out : (net : Network) (faulty : List ℕ) (logs : Logs) (g : ℕ) (e : LogEntry) → Contains (rest_entries net faulty logs g) e → IsLoyal net faulty g × Logged logs g e
logged_out net faulty logs g e h = elim (bool_cases (is_rest net faulty g)) [
  | inl t ↦
      let some : Contains (unwrap_or (logs g) []) e = subst (λ b. Contains (cond b (unwrap_or (logs g) []) []) e) t h in
      elim (option_cases (logs g)) [
        | inl none ↦ absurd (Contains_nil e (subst (λ o. Contains (unwrap_or o []) e) none some))
        | inr log ↦ (loyal_from net faulty g t, (log.0, log.1, subst (λ o. Contains (unwrap_or o []) e) log.1 some))
      ]
  | inr f ↦ absurd (Contains_nil e (subst (λ b. Contains (cond b (unwrap_or (logs g) []) []) e) f h))
]

-- ---- what the entries of the rest give

pub over_in : (given : ℕ → LogEntry → List ℕ) (net : Network) (faulty : List ℕ) (logs : Logs) (g : ℕ) (e : LogEntry) (k : ℕ) → IsLoyal net faulty g → Logged logs g e → Contains (given g e) k → Contains (over_rest given net faulty logs) k
over_in given net faulty logs g e k loyal logged here =
    in_flat_map (λ g. flat_map (given g) (rest_entries net faulty logs g)) (range_with_len 0 net.generals) g k
    (Contains_in_range 0 net.generals g (omega arith) (omega (arith, loyal.0)))
    (in_flat_map (given g) (rest_entries net faulty logs g) e k (logged_in net faulty logs g e loyal logged) here)

-- by which entry of whom of the rest a number is given
pub record IsGiven (given : ℕ → LogEntry → List ℕ) (net : Network) (faulty : List ℕ) (logs : Logs) (k : ℕ) : Type 0 where
  pub general : ℕ
  pub entry : LogEntry
  pub of_rest : IsLoyal net faulty general
  pub logged : Logged logs general entry
  pub small : IsSmall entry
  pub its : Contains (given general entry) k

pub over_out : (given : ℕ → LogEntry → List ℕ) (net : Network) (faulty : List ℕ) (logs : Logs) (k : ℕ) → AreSmall net faulty logs net.generals → Contains (over_rest given net faulty logs) k → IsGiven given net faulty logs k
over_out given net faulty logs k small h =
    let r = Contains_flat_mapped (λ g. flat_map (given g) (rest_entries net faulty logs g)) (range_with_len 0 net.generals) k h in
    let s = Contains_flat_mapped (given r.0) (rest_entries net faulty logs r.0) k r.2 in
    let u = logged_out net faulty logs r.0 s.0 s.1 in
    record { general = r.0; entry = s.0; of_rest = u.0; logged = u.1; small = small r.0 s.0 u.0.0 s.1; its = s.2 }

-- ---- loops over generals

-- one element more has been looked at
pub element_step : {A : Type 0} (f : A → List ℕ) (now new total : List ℕ) (rest behind : List A) (x : A) → rest ≡ x ∷ behind → new ≡ now ++ f x → now ++ flat_map f rest ≡ total → new ++ flat_map f behind ≡ total
element_step {A} f now new total rest behind x is put so_far =
    ap (λ (z : List ℕ). z ++ flat_map f behind) put ∙ append_assoc now (f x) (flat_map f behind) ∙ sym (ap (λ (r : List A). now ++ flat_map f r) is) ∙ so_far

pub range_step : (f : ℕ → List ℕ) (k : ℕ) (now new : List ℕ) → now ≡ flat_map f (range_with_len 0 k) → new ≡ now ++ f k → new ≡ flat_map f (range_with_len 0 (k + 1))
range_step f k now new h n =
    let zero_more : 0 + k ≡ k = omega arith in
    n ∙ ap (λ z. z ++ f k) h ∙ flat_map_more f [] (range_with_len 0 k) k ∙ ap (λ x. flat_map f (range_with_len 0 k ++ x ∷ [])) (sym zero_more) ∙ ap (flat_map f) (sym (range_more 0 k))

pub small_step : (net : Network) (faulty : List ℕ) (logs : Logs) (k : ℕ) (entries : List LogEntry) → AreSmall net faulty logs k → AllByRecursion IsSmall entries → entries ≡ rest_entries net faulty logs k → AreSmall net faulty logs (k + 1)
small_step net faulty logs k entries so_far here same g e less h = elim (cases_eq g k) [
  | inl is ↦ All-contains IsSmall entries e (All-from_recursion IsSmall entries here) (subst (λ es. Contains es e) (sym same) (subst (λ x. Contains (rest_entries net faulty logs x) e) is h))
  | inr ne ↦ so_far g e (omega (arith, less, ne)) h
]

-- ---- keys of the rest

pub no_key : (faulty : List ℕ) (to v : ℕ) (path xs : List ℕ) (e : Entry) (b : Bool) → e ≡ Send to v path → (IsTrue b ↔ Contains faulty to) → b ≡ false → xs ≡ xs ++ entry_keys faulty (erase e)
no_key faulty to v path xs e b is told f =
    let none : is_among faulty to ≡ false = sym (same_test b faulty to told) ∙ f in
    sym (append-nil xs) ∙ ap (λ t. xs ++ cond t (begin_keys v (length path) 1 path) []) (sym none) ∙ ap (λ x. xs ++ entry_keys faulty (erase x)) (sym is)

pub key_in : (net : Network) (faulty : List ℕ) (logs : Logs) (from to v : ℕ) (source front : List ℕ) (last : ℕ) (rest : List ℕ) → IsLoyal net faulty from → Contains faulty to → Logged logs from (Sent to v source) → source ≡ (front ++ last ∷ []) ++ rest
    → Contains (rest_keys net faulty logs) (source_key (path_number (front ++ last ∷ [])) v (length source))
key_in net faulty logs from to v source front last rest loyal bad logged parts =
    let begun : Contains (begin_keys v (length source) 1 source) (source_key (path_number (front ++ last ∷ [])) v (length source)) = subst (λ s. Contains (begin_keys v (length source) 1 s) (source_key (path_number (front ++ last ∷ [])) v (length source))) (sym (parts ∙ append_assoc front (last ∷ []) rest)) (begin_in v (length source) 1 front last rest) in
    let at_entry : Contains (entry_keys faulty (Sent to v source)) (source_key (path_number (front ++ last ∷ [])) v (length source)) = subst (λ b. Contains (cond b (begin_keys v (length source) 1 source) []) (source_key (path_number (front ++ last ∷ [])) v (length source))) (sym (in_among faulty to bad)) begun in
    over_in (λ g. entry_keys faulty) net faulty logs from (Sent to v source) (source_key (path_number (front ++ last ∷ [])) v (length source)) loyal logged at_entry

record IsEntryKey (faulty : List ℕ) (e : LogEntry) (k : ℕ) : Type 0 where
  pub to : ℕ
  pub v : ℕ
  pub source : List ℕ
  pub is : e ≡ Sent to v source
  pub bad : Contains faulty to
  pub begun : Contains (begin_keys v (length source) 1 source) k

entry_out : (faulty : List ℕ) (e : LogEntry) (k : ℕ) → Contains (entry_keys faulty e) k → IsEntryKey faulty e k
entry_out faulty (Started g own) k h = absurd (Contains_nil k h)
entry_out faulty (Signed v path) k h = absurd (Contains_nil k h)
entry_out faulty (Sent to v path) k h = elim (bool_cases (is_among faulty to)) [
  | inl t ↦ record { to = to; v = v; source = path; is = refl; bad = among_in faulty to t; begun = subst (λ b. Contains (cond b (begin_keys v (length path) 1 path) []) k) t h }
  | inr f ↦ absurd (Contains_nil k (subst (λ b. Contains (cond b (begin_keys v (length path) 1 path) []) k) f h))
]
entry_out faulty (Received from v path) k h = absurd (Contains_nil k h)
entry_out faulty (Decided vs v) k h = absurd (Contains_nil k h)

-- what a key of the rest is a key of
pub record IsRestKey (net : Network) (faulty : List ℕ) (logs : Logs) (k : ℕ) : Type 0 where
  pub from : ℕ
  pub to : ℕ
  pub v : ℕ
  pub source : List ℕ
  pub begin : List ℕ
  pub back : List ℕ
  pub from_rest : IsLoyal net faulty from
  pub to_faulty : Contains faulty to
  pub sent : Logged logs from (Sent to v source)
  pub parts : source ≡ begin ++ back
  pub key : k ≡ source_key (path_number begin) v (length source)
  pub small : IsSmall (Sent to v source)

pub key_out : (net : Network) (faulty : List ℕ) (logs : Logs) (k : ℕ) → AreSmall net faulty logs net.generals → Contains (rest_keys net faulty logs) k → IsRestKey net faulty logs k
key_out net faulty logs k small h =
    let r = over_out (λ g. entry_keys faulty) net faulty logs k small h in
    let t = entry_out faulty r.entry k r.its in
    let w = begin_out t.v (length t.source) 1 t.source k t.begun in
    record {
      from = r.general;
      to = t.to;
      v = t.v;
      source = t.source;
      begin = w.begin;
      back = w.back;
      from_rest = r.of_rest;
      to_faulty = t.bad;
      sent = subst (Logged logs r.general) t.is r.logged;
      parts = w.parts;
      key = w.key;
      small = subst IsSmall t.is r.small;
    }

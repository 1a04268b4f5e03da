-- Received chains that the index of sources says nothing of, and where they are found.
use Rattle.std.proofs.Common.{◌≡◌, ◌↔◌, ◌⊎◌, ◌<◌, ◌≤◌, ◌+◌, ◌*◌, ◌^◌, ℕ, Bool, true, false, ◌&&◌, not, cond, IsTrue, inl, inr, List, [], ◌∷◌, ◌++◌, length, map, Contains, All, Option, Some, None, Result, Ok, Err, IfOk, refl, sym, ap, ◌∙◌, subst, arith}
use Rattle.std.specs.Option.{IfSome, option_or}
use Rattle.std.specs.Bool.{then_some}
use Rattle.std.proofs.lemmas.List.{append-nil}
use Rattle.std.proofs.lemmas.List.Elements.{All-nil, All-cons, All-contains, Contains-append_left}
use Rattle.gen_types.specs.Ascending.{IsListOf}
use Rattle.gen_types.specs.Ends.{is_among}
use Rattle.gen_types.proofs.Among.{among_in, in_among}
use Rattle.gen_types.proofs.Lists.{Contains_here, Contains_nil, All_of, bool_cases}
use Rattle.gen_core.proofs.OrderedLists.{only}
use Rattle.gen_net.specs.Network.{Network, IsLoyal}
use Rattle.gen_net.specs.Log.{LogEntry, Started, Signed, Sent, Received, Decided}
use Rattle.gen_match.specs.declared.finding.Finding.{Finding}
use Rattle.gen_match.specs.declared.finding.Finding.TheVariants.{Underivable}
use Rattle.gen_match.specs.declared.kinds.Kind.TheVariants.{Stray}
use Rattle.gen_match.specs.Findings.{AreFindings}
use Rattle.gen_match.specs.Matching.{Logs, Logged, IsDerivableFromLogs, IsUnderivable, FindsUnderivable}
use Rattle.gen_match.specs.Prefixes.{number_behind, path_number, source_key, has_between}
use Rattle.gen_match.specs.Ranks.{rank_number, finding_at}
use Rattle.gen_match.specs.Rest.{is_rest, IsSmall, AreSmall}
use Rattle.gen_match.specs.Underivables.{rest_keys, rest_begin, derives, derives_from, found_at, found_ranks}
use Rattle.gen_match.proofs.Keys.{one_path, key_inside, between_in, between_out}
use Rattle.gen_match.proofs.Ranked.{IsRank, IsRanked, StandsAt, ranked_found}
use Rattle.gen_match.proofs.Rest.{same_test, loyal_from, rest_from, logged_in, over_in, over_out, key_in, key_out}
use Rattle.gen_match.proofs.Sourcing.{derivable_at_last}

-- ---- the last general of the rest

pub begin_step : (net : Network) (faulty : List ℕ) (number next g : ℕ) (found new : Option ℕ) (rest others : List ℕ) (whole : Option ℕ) → rest ≡ g ∷ others → next ≡ number * 16 + g → new ≡ cond (is_rest net faulty g) (Some next) found → rest_begin net faulty number found rest ≡ whole → rest_begin net faulty next new others ≡ whole
begin_step net faulty number next g found new rest others whole e n f h =
    ap (λ x. rest_begin net faulty next x others) f
    ∙ ap (λ m. rest_begin net faulty m (cond (is_rest net faulty g) (Some m) found) others) n
    ∙ ap (rest_begin net faulty number found) (sym e) ∙ h

-- what is found up to a general: the number if the general is of the rest, or else what was found before
pub last_told : (b : Bool) (number : ℕ) (before : Option ℕ) → option_or (then_some b number) before ≡ cond b (Some number) before
last_told true number before = refl
last_told false number before = refl

pub found_small : (new : Option ℕ) (b : Bool) (number : ℕ) (found : Option ℕ) → number < 2 ^ 65 → new ≡ cond b (Some number) found → IfSome found (λ n. n < 2 ^ 65) → IfSome new (λ n. n < 2 ^ 65)
found_small new true number found small e before = subst (λ o. IfSome o (λ n. n < 2 ^ 65)) (sym e) small
found_small new false number found small e before = subst (λ o. IfSome o (λ n. n < 2 ^ 65)) (sym e) before

not_loyal : (net : Network) (faulty : List ℕ) (g : ℕ) → is_rest net faulty g ≡ false → IsLoyal net faulty g → ⊥
not_loyal net faulty g f l = let t = rest_from net faulty g l in absurd cc

record LastOfRest (net : Network) (faulty : List ℕ) (n : ℕ) (path : List ℕ) (k : ℕ) : Type 0 where
  pub front : List ℕ
  pub last : ℕ
  pub after : List ℕ
  pub parts : path ≡ (front ++ last ∷ []) ++ after
  pub loyal : IsLoyal net faulty last
  pub nobody : All (λ g. IsLoyal net faulty g → ⊥) after
  pub number : k ≡ number_behind n (front ++ last ∷ [])

-- nobody of the path is of the rest, and what was found before stays, or it is found up to the last one who is
abbrev BeginTold : Network → List ℕ → ℕ → Option ℕ → List ℕ → Option ℕ → Type 0
BeginTold net faulty n found path r =
    (All (λ g. IsLoyal net faulty g → ⊥) path × (r ≡ found)) ⊎ ((k : ℕ) × (r ≡ Some k) × LastOfRest net faulty n path k)

begin_told : (net : Network) (faulty : List ℕ) (n : ℕ) (found : Option ℕ) (path : List ℕ) → BeginTold net faulty n found path (rest_begin net faulty n found path)
begin_told net faulty n found [] = inl (All-nil (λ g. IsLoyal net faulty g → ⊥), refl)
begin_told net faulty n found (g ∷ path) = elim (begin_told net faulty (n * 16 + g) (cond (is_rest net faulty g) (Some (n * 16 + g)) found) path) [
  | inl none ↦ elim (bool_cases (is_rest net faulty g)) [
    | inl t ↦ inr (
      n * 16 + g,
      none.1 ∙ ap (λ b. cond b (Some (n * 16 + g)) found) t,
      record {
        front = [];
        last = g;
        after = path;
        parts = refl;
        loyal = loyal_from net faulty g t;
        nobody = none.0;
        number = refl;
      },
    )
    | inr f ↦ inl (All-cons (λ h. IsLoyal net faulty h → ⊥) g path (not_loyal net faulty g f) none.0, none.1 ∙ ap (λ b. cond b (Some (n * 16 + g)) found) f)
  ]
  | inr some ↦ inr (
    some.0,
    some.1,
    record {
      front = g ∷ some.2.front;
      last = some.2.last;
      after = some.2.after;
      parts = ap (λ xs. g ∷ xs) some.2.parts;
      loyal = some.2.loyal;
      nobody = some.2.nobody;
      number = some.2.number;
    },
  )
]

-- ---- what derives

derived_in : (keys : List ℕ) (net : Network) (faulty : List ℕ) (logs : Logs) (v : ℕ) (path : List ℕ) → IsListOf keys (Contains (rest_keys net faulty logs)) → IsDerivableFromLogs net faulty logs v path → derives keys net faulty v path ≡ true
derived_in keys net faulty logs v path are d = elim (begin_told net faulty 1 None path) [
  | inl none ↦ ap (derives_from keys v (length path)) none.1
  | inr some ↦
      let l = some.2 in
      let s = (derivable_at_last net faulty logs v path l.front l.last l.after l.parts l.loyal l.nobody).0 d in
      let key = key_in net faulty logs s.from s.to v s.source l.front l.last s.begun.0 s.from_rest s.to_faulty s.sent s.begun.1 in
      let stands : Contains keys (source_key (path_number (l.front ++ l.last ∷ [])) v (length s.source)) = (are.members (source_key (path_number (l.front ++ l.last ∷ [])) v (length s.source))).1 key in
      let earlier : length s.source < length path = s.earlier in
      let found : has_between keys (source_key (path_number (l.front ++ l.last ∷ [])) v 0) (source_key (path_number (l.front ++ l.last ∷ [])) v (length path)) ≡ true =
      between_in keys (source_key (path_number (l.front ++ l.last ∷ [])) v 0) (source_key (path_number (l.front ++ l.last ∷ [])) v (length path)) (source_key (path_number (l.front ++ l.last ∷ [])) v (length s.source)) stands (omega arith) (omega (arith, earlier)) in
      ap (derives_from keys v (length path)) (some.1 ∙ ap (λ k. Some k) l.number) ∙ found
]

front_small : (xs ys zs : List ℕ) → zs ≡ xs ++ ys → All (λ g. g < 16) zs → All (λ g. g < 16) xs
front_small xs ys zs e small = All_of (λ g. g < 16) xs (λ x h. All-contains (λ g. g < 16) zs x small (subst (λ s. Contains s x) (sym e) (Contains-append_left xs ys x h)))

derived_out : (keys : List ℕ) (net : Network) (faulty : List ℕ) (logs : Logs) (v : ℕ) (path : List ℕ) → IsListOf keys (Contains (rest_keys net faulty logs)) → AreSmall net faulty logs net.generals → v < 16 → length path ≤ 16 → All (λ g. g < 16) path
    → derives keys net faulty v path ≡ true → IsDerivableFromLogs net faulty logs v path
derived_out keys net faulty logs v path are small small_v short digits d = elim (begin_told net faulty 1 None path) [
  | inl none ↦ inl none.0
  | inr some ↦
      let l = some.2 in
      let found : has_between keys (source_key (path_number (l.front ++ l.last ∷ [])) v 0) (source_key (path_number (l.front ++ l.last ∷ [])) v (length path)) ≡ true =
      sym (ap (derives_from keys v (length path)) (some.1 ∙ ap (λ k. Some k) l.number)) ∙ d in
      let between = between_out keys (source_key (path_number (l.front ++ l.last ∷ [])) v 0) (source_key (path_number (l.front ++ l.last ∷ [])) v (length path)) found in
      let key = key_out net faulty logs between.0 small ((are.members between.0).0 between.1) in
      let source_small : (key.v < 16) × (length key.source ≤ 16) × All (λ g. g < 16) key.source = key.small in
      let inside = key_inside (path_number (l.front ++ l.last ∷ [])) v (length path) (path_number key.begin) key.v (length key.source) small_v source_small.0 (omega (arith, source_small.1)) (omega (arith, short))
      (subst (λ k. source_key (path_number (l.front ++ l.last ∷ [])) v 0 ≤ k) key.key between.2)
      (subst (λ k. k < source_key (path_number (l.front ++ l.last ∷ [])) v (length path)) key.key between.3) in
      let same : key.begin ≡ l.front ++ l.last ∷ [] = one_path key.begin (l.front ++ l.last ∷ []) (front_small key.begin key.back key.source key.parts source_small.2) (front_small (l.front ++ l.last ∷ []) l.after path l.parts digits) inside.number in
      (derivable_at_last net faulty logs v path l.front l.last l.after l.parts l.loyal l.nobody).1 (record {
        from = key.from;
        to = key.to;
        source = key.source;
        from_rest = key.from_rest;
        to_faulty = key.to_faulty;
        sent = subst (λ w. Logged logs key.from (Sent key.to w key.source)) inside.order key.sent;
        earlier = inside.shorter;
        begun = (key.back, key.parts ∙ ap (λ b. b ++ key.back) same);
      })
]

-- ---- ranks of what doesn't

false_and : (b c : Bool) → c ≡ true → (b && not c) ≡ false
false_and true c e = ap not e
false_and false c e = refl

pub no_rank : (keys : List ℕ) (net : Network) (faulty : List ℕ) (to from v : ℕ) (path xs : List ℕ) (e : LogEntry) → e ≡ Received from v path → (is_among faulty from && not (derives keys net faulty v path)) ≡ false → xs ≡ xs ++ found_at keys net faulty to e
no_rank keys net faulty to from v path xs e is f =
    sym (append-nil xs) ∙ ap (λ b. xs ++ cond b (rank_number from to (length path) v ∷ []) []) (sym f) ∙ ap (λ x. xs ++ found_at keys net faulty to x) (sym is)

pub derived_no_rank : (keys : List ℕ) (net : Network) (faulty : List ℕ) (to from v : ℕ) (path xs : List ℕ) (e : LogEntry) (d : Bool) → e ≡ Received from v path → d ≡ derives keys net faulty v path → d ≡ true → xs ≡ xs ++ found_at keys net faulty to e
derived_no_rank keys net faulty to from v path xs e d is told f =
    no_rank keys net faulty to from v path xs e is (false_and (is_among faulty from) (derives keys net faulty v path) (sym told ∙ f))

pub loyal_no_rank : (keys : List ℕ) (net : Network) (faulty : List ℕ) (to from v : ℕ) (path xs : List ℕ) (e : LogEntry) (b : Bool) → e ≡ Received from v path → (IsTrue b ↔ Contains faulty from) → b ≡ false → xs ≡ xs ++ found_at keys net faulty to e
loyal_no_rank keys net faulty to from v path xs e b is told f =
    no_rank keys net faulty to from v path xs e is (ap (λ t. t && not (derives keys net faulty v path)) (sym (same_test b faulty from told) ∙ f))

record IsFoundAt (keys : List ℕ) (net : Network) (faulty : List ℕ) (to : ℕ) (e : LogEntry) (k : ℕ) : Type 0 where
  pub from : ℕ
  pub v : ℕ
  pub path : List ℕ
  pub is : e ≡ Received from v path
  pub bad : Contains faulty from
  pub stray : derives keys net faulty v path ≡ false
  pub rank : k ≡ rank_number from to (length path) v

and_not : (b c : Bool) → (b && not c) ≡ true → (b ≡ true) × (c ≡ false)
and_not true true e = absurd cc
and_not true false e = (refl, refl)
and_not false c e = absurd cc

found_out : (keys : List ℕ) (net : Network) (faulty : List ℕ) (to : ℕ) (e : LogEntry) (k : ℕ) → Contains (found_at keys net faulty to e) k → IsFoundAt keys net faulty to e k
found_out keys net faulty to (Started g own) k h = absurd (Contains_nil k h)
found_out keys net faulty to (Signed v path) k h = absurd (Contains_nil k h)
found_out keys net faulty to (Sent whom v path) k h = absurd (Contains_nil k h)
found_out keys net faulty to (Received from v path) k h = elim (bool_cases (is_among faulty from && not (derives keys net faulty v path))) [
  | inl t ↦
      let r = and_not (is_among faulty from) (derives keys net faulty v path) t in
      let here : Contains (rank_number from to (length path) v ∷ []) k = subst (λ b. Contains (cond b (rank_number from to (length path) v ∷ []) []) k) t h in
      record { from = from; v = v; path = path; is = refl; bad = among_in faulty from r.0; stray = r.1; rank = sym (only (rank_number from to (length path) v) k here) }
  | inr f ↦ absurd (Contains_nil k (subst (λ b. Contains (cond b (rank_number from to (length path) v ∷ []) []) k) f h))
]
found_out keys net faulty to (Decided vs v) k h = absurd (Contains_nil k h)

record IsFoundRank (keys : List ℕ) (net : Network) (faulty : List ℕ) (logs : Logs) (k : ℕ) : Type 0 where
  pub from : ℕ
  pub to : ℕ
  pub v : ℕ
  pub path : List ℕ
  pub from_faulty : Contains faulty from
  pub to_rest : IsLoyal net faulty to
  pub received : Logged logs to (Received from v path)
  pub stray : derives keys net faulty v path ≡ false
  pub rank : k ≡ rank_number from to (length path) v
  pub small : IsSmall (Received from v path)

rank_out : (keys : List ℕ) (net : Network) (faulty : List ℕ) (logs : Logs) (k : ℕ) → AreSmall net faulty logs net.generals → Contains (found_ranks keys net faulty logs) k → IsFoundRank keys net faulty logs k
rank_out keys net faulty logs k small h =
    let r = over_out (found_at keys net faulty) net faulty logs k small h in
    let t = found_out keys net faulty r.general r.entry k r.its in
    record {
      from = t.from;
      to = r.general;
      v = t.v;
      path = t.path;
      from_faulty = t.bad;
      to_rest = r.of_rest;
      received = subst (Logged logs r.general) t.is r.logged;
      stray = t.stray;
      rank = t.rank;
      small = subst IsSmall t.is r.small;
    }

rank_in : (keys : List ℕ) (net : Network) (faulty : List ℕ) (logs : Logs) (from to v : ℕ) (path : List ℕ) → Contains faulty from → IsLoyal net faulty to → Logged logs to (Received from v path) → derives keys net faulty v path ≡ false
    → Contains (found_ranks keys net faulty logs) (rank_number from to (length path) v)
rank_in keys net faulty logs from to v path bad loyal received stray =
    let t : (is_among faulty from && not (derives keys net faulty v path)) ≡ true = rw (in_among faulty from bad, stray) refl in
    let here : Contains (found_at keys net faulty to (Received from v path)) (rank_number from to (length path) v) = subst (λ b. Contains (cond b (rank_number from to (length path) v ∷ []) []) (rank_number from to (length path) v)) (sym t) (Contains_here (rank_number from to (length path) v) []) in
    over_in (found_at keys net faulty) net faulty logs to (Received from v path) (rank_number from to (length path) v) loyal received here

-- ---- the findings

rank_of : (keys : List ℕ) (net : Network) (faulty : List ℕ) (logs : Logs) (k : ℕ) → net.generals ≤ 16 → (f : IsFoundRank keys net faulty logs k) → IsRank f.from f.to (length f.path) f.v
rank_of keys net faulty logs k few f =
    let small : (f.from < 16) × (f.v < 16) × (length f.path ≤ 16) × All (λ g. g < 16) f.path = f.small in
    record { from_small = small.0; to_small = omega (arith, f.to_rest.0, few); round_small = omega (arith, small.2); order_small = small.1 }

-- what a rank is found of is underivable
ranked : (keys : List ℕ) (net : Network) (faulty : List ℕ) (logs : Logs) (k : ℕ) → IsListOf keys (Contains (rest_keys net faulty logs)) → net.generals ≤ 16 → IsFoundRank keys net faulty logs k → IsRanked Stray (FindsUnderivable net faulty logs) k
ranked keys net faulty logs k are few f =
    let it : IsUnderivable net faulty logs f.from f.to (length f.path) f.v = record {
      from_faulty = f.from_faulty;
      to_rest = f.to_rest;
      path = f.path;
      round = refl;
      received = f.received;
      not_derivable = λ d. let t = derived_in keys net faulty logs f.v f.path are d in let s = f.stray in absurd cc;
    } in
    record {
      from = f.from;
      to = f.to;
      round = length f.path;
      order = f.v;
      small = rank_of keys net faulty logs k few f;
      rank = f.rank;
      holds = it;
    }

-- and what is underivable has its rank
stands : (keys ranks : List ℕ) (net : Network) (faulty : List ℕ) (logs : Logs) (f : Finding) → IsListOf keys (Contains (rest_keys net faulty logs)) → AreSmall net faulty logs net.generals → net.generals ≤ 16 → IsListOf ranks (Contains (found_ranks keys net faulty logs))
    → FindsUnderivable net faulty logs f → StandsAt Stray ranks f
stands keys ranks net faulty logs (Underivable from to round order) are small few ranked u =
    let here = logged_in net faulty logs to (Received from order u.path) u.to_rest u.received in
    let ranges : (from < 16) × (order < 16) × (length u.path ≤ 16) × All (λ g. g < 16) u.path = small to (Received from order u.path) u.to_rest.0 here in
    let stray : derives keys net faulty order u.path ≡ false = elim (bool_cases (derives keys net faulty order u.path)) [
      | inl t ↦ absurd (u.not_derivable (derived_out keys net faulty logs order u.path are small ranges.1 ranges.2 ranges.3 t))
      | inr f ↦ f
    ] in
    record {
      from = from;
      to = to;
      round = length u.path;
      order = order;
      small = record { from_small = ranges.0; to_small = omega (arith, u.to_rest.0, few); round_small = omega (arith, ranges.2); order_small = ranges.1 };
      is = ap (λ l. Underivable from to l order) (sym u.round);
      stands = (ranked.members (rank_number from to (length u.path) order)).1 (rank_in keys net faulty logs from to order u.path u.from_faulty u.to_rest u.received stray);
    }
stands keys ranks net faulty logs _ are small few ranked h = absurd h

pub strays_found : (keys ranks : List ℕ) (net : Network) (faulty : List ℕ) (logs : Logs) → IsListOf keys (Contains (rest_keys net faulty logs)) → AreSmall net faulty logs net.generals → net.generals ≤ 16 → IsListOf ranks (Contains (found_ranks keys net faulty logs))
    → AreFindings (FindsUnderivable net faulty logs) (map (finding_at Stray) ranks)
strays_found keys ranks net faulty logs are small few of_all =
    ranked_found Stray (FindsUnderivable net faulty logs) ranks of_all.ascending
    (λ k h. ranked keys net faulty logs k are few (rank_out keys net faulty logs k small ((of_all.members k).0 h)))
    (λ f h. stands keys ranks net faulty logs f are small few of_all h)

pub then_ok : {X E : Type 0} (P Q : X → Type 0) (r : Result X E) → ((x : X) → P x → Q x) → IfOk r P → IfOk r Q
then_ok P Q (Ok x) f h = f x h
then_ok P Q (Err e) f h = h

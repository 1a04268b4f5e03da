-- Nothing is found in a bundle exactly where it is supported.
use Rattle.std.proofs.Common.{◌≡◌, ℕ, zero, suc, ◌+◌, ◌≤◌, Bool, true, false, ◌&&◌, if◌then◌else◌, inl, inr, List, [], ◌∷◌, ◌++◌, length, map, take, drop, Contains, Some, None, Result, Ok, Err, refl, sym, ap, ◌∙◌, subst, arith}
use Rattle.std.specs.Bool.{nat_eq}
use Rattle.std.specs.List.{AllByRecursion}
use Rattle.std.specs.Cmp.Lexicographic.{pointwise, same_text, other_text}
use Rattle.std.proofs.lemmas.Bool.{eqb-true, eq-eqb}
use Rattle.gen_types.specs.Members.{bool_cases}
use Rattle.gen_types.specs.Ascending.{IsListOf}
use Rattle.gen_types.proofs.Lists.{Contains_filtered, Contains_here, Contains_cases, Contains_nil, below_or_least, ascending_one}
use Rattle.gen_net.specs.Network.{Network, IsLoyal}
use Rattle.gen_net.specs.Header.{RunHeader, run_id_of}
use Rattle.gen_net.specs.Log.{LogEntry, Keeps}
use Rattle.gen_net.specs.Departs.{IsFollowersLog, DepartsAt}
use Rattle.gen_core.proofs.Decisions.{list_below}
use Rattle.gen_walks.specs.Walks.{BoundsDiameter}
use Rattle.gen_scenario.proofs.Agree.{decide_loyal}
use Rattle.gen_log.specs.declared.entries.Entry.{Entry}
use Rattle.gen_log.specs.declared.entries.Entry.TheVariants.{Start, Sign, Send, Recv, Decide}
use Rattle.gen_log.specs.declared.fault.LogFault.{LogFault}
use Rattle.gen_log.specs.Entry.{erase}
use Rattle.gen_log.specs.Log.{RunLog, IsLog, EndsWithDecide, BeginsWithStartOf}
use Rattle.gen_log.specs.LogReading.{log_of}
use Rattle.gen_log.specs.Links.{HeadVerifies}
use Rattle.gen_log.proofs.LogLaws.{log_found}
use Rattle.gen_log.proofs.NextEntries.{are_bytes}
use Rattle.gen_log.specs.Verifying.{starts_as, says_it_is_of, SaysItIsOf, EntryVerifies, LogVerifies}
use Rattle.gen_audit.specs.Explained.{NothingFound}
use Rattle.gen_log.specs.Writing.{LogBytes}
use Rattle.gen_match.specs.declared.finding.Finding.{Finding}
use Rattle.gen_match.specs.declared.finding.Finding.TheVariants.{Missing, Several, Unreadable, Foreign, Unsigned, Unsealed, Departs, Unmatched, Underivable, Unjoined, Nobody}
use Rattle.gen_audit.specs.Bundle.{Bundle, IsBundle, exhibits_of, counted, sole_log, logs_of}
use Rattle.gen_audit.specs.Findings.{Shows, ShowsOwn, IsFinding}
use Rattle.gen_audit.specs.Supported.{HasSoleLog, IsSupported, IsClean, CleanIsSupported, SupportedIsClean, SupportedShowsRun, CleanAgrees, AgreeOn}
use Rattle.gen_audit.proofs.Claims.{nothing_found_explains, explained_finds_nothing}
use Rattle.gen_audit.proofs.Agreeing.{few_faulty_agree}
use Rattle.gen_audit.proofs.Deciding.{Dec}
use Rattle.gen_audit.proofs.Verifying.{head_verifies, first_failing, none_fails}
use Rattle.gen_audit.proofs.Walking.{bound_or_bad}
use Rattle.gen_audit.proofs.Following.{departs_or_follows}
use Rattle.gen_local.specs.FollowingLaws.{EndsDecided}
use Rattle.std.proofs.lemmas.List.{map-append}

-- ---- whose a log is
start_of : (g : ℕ) (entries : List Entry) → starts_as g entries ≡ true → BeginsWithStartOf g entries
start_of g [] e = absurd cc
start_of g (Start general own ∷ more) e = (own, more, ap (λ x. Start x own ∷ more) (eqb-true general g e))
start_of g (Sign order path signature ∷ more) e = absurd cc
start_of g (Send to order path ∷ more) e = absurd cc
start_of g (Recv from chain ∷ more) e = absurd cc
start_of g (Decide orders order ∷ more) e = absurd cc

start_is : (g : ℕ) (entries : List Entry) → BeginsWithStartOf g entries → starts_as g entries ≡ true
start_is g entries s = ap (starts_as g) s.2 ∙ eq-eqb g g refl

two : (a b : Bool) → (a && b) ≡ true → (a ≡ true) × (b ≡ true)
two true true e = (refl, refl)
two true false e = absurd cc
two false b e = absurd cc

same_text_is : (xs : List ℕ) → pointwise nat_eq xs xs ≡ true
same_text_is xs = elim (bool_cases (pointwise nat_eq xs xs)) [
  | inl e ↦ e
  | inr e ↦ absurd (other_text xs xs (sym e) refl)
]

pub own_of : (h : RunHeader) (g : ℕ) (log : RunLog) → says_it_is_of h g log ≡ true → SaysItIsOf h g log
own_of h g log e =
    let p = two (pointwise nat_eq log.run_id (run_id_of h)) (starts_as g log.entries) e in
    record { of_run = same_text log.run_id (run_id_of h) (sym p.0); starts = start_of g log.entries p.1 }

pub own_is : (h : RunHeader) (g : ℕ) (log : RunLog) → SaysItIsOf h g log → says_it_is_of h g log ≡ true
own_is h g log own = rw (own.of_run, same_text_is (run_id_of h), start_is g log.entries own.starts) refl

decide_own : (h : RunHeader) (g : ℕ) (log : RunLog) → Dec (SaysItIsOf h g log)
decide_own h g log = elim (bool_cases (says_it_is_of h g log)) [
  | inl e ↦ inl (own_of h g log e)
  | inr e ↦ inr (λ own. let t : false ≡ true = sym e ∙ own_is h g log own in cc)
]

-- ---- the log that counts
pub counts : (b : Bundle) (g : ℕ) (x : LogBytes) (log : RunLog) → exhibits_of b.exhibits g ≡ x ∷ [] → log_of b.header x.bytes ≡ Ok log → SaysItIsOf b.header g log → logs_of b g ≡ Some (map erase log.entries)
counts b g x log sole reads own = ap (sole_log b.header g) sole ∙ (ap (counted b.header g) reads ∙ ap (λ t. if t then Some (map erase log.entries) else None) (own_is b.header g log own))

-- ---- a follower's log departs nowhere
take_drop : {X : Type 0} (n : ℕ) (xs : List X) → take n xs ++ drop n xs ≡ xs
take_drop zero xs = refl
take_drop (suc n) [] = refl
take_drop (suc n) (x ∷ xs) = ap (λ ys. x ∷ ys) (take_drop n xs)

pub departs_nowhere : (net : Network) (g : ℕ) (entries : List LogEntry) (p : ℕ) → IsFollowersLog net g entries → DepartsAt net g entries p → ⊥
departs_nowhere net g entries p follows d = d.2 (drop (p + 1) entries, subst (IsFollowersLog net g) (sym (take_drop (p + 1) entries)) follows)

ends_decided : (entries : List Entry) → EndsWithDecide entries → EndsDecided (map erase entries)
ends_decided entries last = (map erase last.0, last.1, last.2, ap (map erase) last.3 ∙ map-append erase last.0 (Decide last.1 last.2 ∷ []))

abbrev done : RunLog → Result RunLog LogFault
done l = Ok l

one_result : (l m : RunLog) → done l ≡ done m → l ≡ m
one_result l m q = cc

same_result : (b : Bundle) (x : LogBytes) (log other : RunLog) → log_of b.header x.bytes ≡ Ok log → log_of b.header x.bytes ≡ Ok other → log ≡ other
same_result b x log other e f = one_result log other (sym e ∙ f)

not_fault : (r : Result RunLog LogFault) (log : RunLog) (fault : LogFault) → r ≡ Ok log → r ≡ Err fault → ⊥
not_fault r log fault e f = absurd cc

module _ (b : Bundle) where
  abbrev net : Network
  net = b.header.network

  rest_list : (rest : List ℕ) × IsListOf rest (IsLoyal net b.faulty)
  rest_list =
      let r = list_below (IsLoyal net b.faulty) (decide_loyal net b.faulty) net.generals in
      (r.0, record { ascending = r.1.ascending; members = λ v. ((λ h. ((r.1.members v).0 h).1), (λ h. (r.1.members v).1 (h.0, h))) })

  module _ (bundle : IsBundle b) (clean : IsClean b) where
    somebody : (g : ℕ) × IsLoyal net b.faulty g
    somebody = elim (below_or_least (IsLoyal net b.faulty) (decide_loyal net b.faulty) net.generals) [
      | inl none ↦ absurd (clean Nobody (λ g l. none g l.0 l))
      | inr s ↦ (s.0, s.2)
    ]

    sole_of : (g : ℕ) → IsLoyal net b.faulty g → (xs : List LogBytes) → exhibits_of b.exhibits g ≡ xs → (x : LogBytes) × (exhibits_of b.exhibits g ≡ x ∷ [])
    sole_of g loyal [] e = absurd (clean (Missing g) (loyal, e))
    sole_of g loyal (x ∷ []) e = (x, e)
    sole_of g loyal (x ∷ y ∷ more) e = absurd (clean (Several g) (loyal, (x, y, more, e)))

    log_at : (g : ℕ) → IsLoyal net b.faulty g → (x : LogBytes) → Contains (exhibits_of b.exhibits g) x → (r : Result RunLog LogFault) → log_of b.header x.bytes ≡ r → (log : RunLog) × (log_of b.header x.bytes ≡ Ok log)
    log_at g loyal x his (Ok log) e = (log, e)
    log_at g loyal x his (Err fault) e = absurd (clean (Unreadable g fault) (loyal, (x, his, e)))

    -- his one log, which verifies and is a follower's
    record Sound (g : ℕ) : Type 0 where
      pub sole : HasSoleLog b g
      pub own : SaysItIsOf b.header g sole.log
      pub follows : IsFollowersLog net g (map erase sole.log.entries)

    sound : (g : ℕ) → IsLoyal net b.faulty g → Sound g
    sound g loyal =
        let s = sole_of g loyal (exhibits_of b.exhibits g) refl in
        let his : Contains (exhibits_of b.exhibits g) s.0 = subst (λ xs. Contains xs s.0) (sym s.1) (Contains_here s.0 []) in
        let r = log_at g loyal s.0 his (log_of b.header s.0.bytes) refl in
        let shows : Shows b g r.0 = record { of_rest = loyal; exhibit = s.0; his = his; reads = r.1 } in
        let own : SaysItIsOf b.header g r.0 = elim (decide_own b.header g r.0) [ inl own ↦ own | inr other ↦ absurd (clean (Foreign g) (r.0, shows, other)) ] in
        let shows_own : ShowsOwn b g r.0 = record { shows = shows; says = own } in
        let signed : AllByRecursion (EntryVerifies b.header) r.0.entries = elim (first_failing b.header r.0.entries) [ inl f ↦ absurd (clean (Unsigned g f.0) (r.0, shows_own, f.1)) | inr all ↦ all ] in
        let head : HeadVerifies b.header g r.0 = elim (head_verifies b.header g r.0) [ inl h ↦ h | inr fails ↦ absurd (clean (Unsealed g) (r.0, shows_own, fails)) ] in
        let inside : Contains b.exhibits s.0 = (Contains_filtered (λ (x : LogBytes). nat_eq x.general g) b.exhibits s.0 his).0 in
        let is_log : IsLog b.header r.0 = (log_found b.header bundle.header.network.ranges.few_orders s.0.bytes r.0 (are_bytes s.0.bytes (bundle.bytes s.0 inside)) r.1).fits in
        let follows : IsFollowersLog net g (map erase r.0.entries) = departs_or_follows net g bundle.header.network loyal.0 (map erase r.0.entries) (ends_decided r.0.entries is_log.last) (λ p d. clean (Departs g p) (r.0, shows_own, d)) in
        record {
          sole = record {
            exhibit = s.0;
            sole = s.1;
            log = r.0;
            reads = r.1;
            verifies = record { fits_run = is_log; says = own; entries = signed; head = head };
          };
          own = own;
          follows = follows;
        }

    nothing : NothingFound net b.faulty (logs_of b)
    nothing = record {
      each = λ g loyal. let s = sound g loyal in (map erase s.sole.log.entries, counts b g s.sole.exhibit s.sole.log s.sole.sole s.sole.reads s.own, s.follows);
      matched = λ a c l v u. clean (Unmatched a c l v) u;
      derivable = λ a c l v u. clean (Underivable a c l v) u;
    }

    supported : IsSupported b
    supported = record {
      somebody = somebody;
      each = λ g loyal. (sound g loyal).sole;
      rest = rest_list.0;
      of_rest = rest_list.1;
      bound = elim (bound_or_bad net rest_list.0 b.walks) [ inl bound ↦ bound | inr bad ↦ absurd (clean (Unjoined bad.0 bad.1) (rest_list.0, rest_list.1, bad.2)) ];
      explained = nothing_found_explains net b.faulty (logs_of b) nothing;
    }

  module _ (s : IsSupported b) where
    found_none : NothingFound net b.faulty (logs_of b)
    found_none = explained_finds_nothing net b.faulty (logs_of b) s.explained

    -- the log that is shown is the one that verifies
    the_log : (g : ℕ) (log : RunLog) (shows : Shows b g log) → (s.each g shows.of_rest).log ≡ log
    the_log g log shows =
        let one = s.each g shows.of_rest in
        let x : one.exhibit ≡ shows.exhibit = elim (Contains_cases one.exhibit shows.exhibit [] (subst (λ xs. Contains xs shows.exhibit) one.sole shows.his)) [ inl e ↦ e | inr none ↦ absurd (Contains_nil shows.exhibit none) ] in
        same_result b shows.exhibit one.log log (subst (λ y. log_of b.header y.bytes ≡ Ok one.log) x one.reads) shows.reads

    verifies : (g : ℕ) (log : RunLog) → Shows b g log → LogVerifies b.header g log
    verifies g log shows = subst (LogVerifies b.header g) (the_log g log shows) (s.each g shows.of_rest).verifies

    own : (g : ℕ) (log : RunLog) → Shows b g log → SaysItIsOf b.header g log
    own g log shows = let v = verifies g log shows in v.says

    follows : (g : ℕ) (log : RunLog) → Shows b g log → IsFollowersLog net g (map erase log.entries)
    follows g log shows =
        let one = s.each g shows.of_rest in
        let l = found_none.each g shows.of_rest in
        let e : logs_of b g ≡ Some (map erase one.log.entries) = counts b g one.exhibit one.log one.sole one.reads one.verifies.says in
        let q : l.0 ≡ map erase one.log.entries = same (l.0) (map erase one.log.entries) (sym l.1 ∙ e) in
        subst (λ (x : RunLog). IsFollowersLog net g (map erase x.entries)) (the_log g log shows) (subst (IsFollowersLog net g) q l.2)
      where
        same : (x y : List LogEntry) → Some x ≡ Some y → x ≡ y
        same x y e = cc

    none_of : (finding : Finding) → IsFinding b finding → ⊥
    none_of (Missing g) f = let q : (s.each g f.0).exhibit ∷ [] ≡ [] = sym (s.each g f.0).sole ∙ f.1 in absurd (omega (arith, ap length q))
    none_of (Several g) f = let q : (s.each g f.0).exhibit ∷ [] ≡ f.1.0 ∷ f.1.1 ∷ f.1.2 = sym (s.each g f.0).sole ∙ f.1.3 in absurd (omega (arith, ap length q))
    none_of (Unreadable g fault) f =
        let one = s.each g f.0 in
        let x : one.exhibit ≡ f.1.0 = elim (Contains_cases one.exhibit f.1.0 [] (subst (λ xs. Contains xs f.1.0) one.sole f.1.1)) [ inl e ↦ e | inr none ↦ absurd (Contains_nil f.1.0 none) ] in
        not_fault (log_of b.header f.1.0.bytes) one.log fault (subst (λ y. log_of b.header y.bytes ≡ Ok one.log) x one.reads) f.1.2
    none_of (Foreign g) f = f.2 (own g f.0 f.1)
    none_of (Unsigned g p) f = none_fails b.header f.0.entries p (verifies g f.0 f.1.shows).entries f.2
    none_of (Unsealed g) f = f.2 (verifies g f.0 f.1.shows).head
    none_of (Departs g p) f = departs_nowhere net g (map erase f.0.entries) p (follows g f.0 f.1.shows) f.2
    none_of (Unmatched a c l v) f = found_none.matched a c l v f
    none_of (Underivable a c l v) f = found_none.derivable a c l v f
    none_of (Unjoined a c) f =
        let same : s.rest ≡ f.0 = ascending_one s.rest f.0 s.of_rest.ascending f.1.ascending (λ v h. (f.1.members v).1 ((s.of_rest.members v).0 h)) (λ v h. (s.of_rest.members v).1 ((f.1.members v).0 h)) in
        f.2.bad (subst (λ rest. BoundsDiameter net rest b.walks) same s.bound a c f.2.pair)
    none_of Nobody f = f s.somebody.0 s.somebody.1

    agrees : length b.faulty ≤ net.traitors → (order : ℕ) × AgreeOn b order
    agrees few = few_faulty_agree net b.faulty s.rest b.walks (logs_of b) (record {
      few = few;
      of_rest = λ g. ((λ h. (s.of_rest.members g).0 h.1), (λ h. (h.0, (s.of_rest.members g).1 h)));
      bound = s.bound;
      somebody = s.somebody;
    }) s.explained

pub supported_is_clean : SupportedIsClean
supported_is_clean b s = none_of b s

pub clean_is_supported : CleanIsSupported
clean_is_supported b bundle = ((λ clean. supported b bundle clean), (λ s. none_of b s))

pub clean_agrees : CleanAgrees
clean_agrees b bundle clean few = agrees b (supported b bundle clean) few

-- ---- what is shown is of one run
one_log : (x y : List LogEntry) → Some x ≡ Some y → x ≡ y
one_log x y e = cc

pub supported_shows_run : SupportedShowsRun
supported_shows_run b s =
    let e = s.explained in (
      e.run,
      e.conducts,
      e.signed,
      λ g rest.
          let one = s.each g rest in
          let kept = e.keeps g rest in
          let same : kept.0 ≡ map erase one.log.entries = one_log kept.0 (map erase one.log.entries) (sym kept.1 ∙ counts b g one.exhibit one.log one.sole one.reads one.verifies.says) in
          record {
            exhibit = one.exhibit;
            sole = one.sole;
            log = one.log;
            reads = one.reads;
            verifies = one.verifies;
            keeps = subst (Keeps b.header.network e.run g (e.conducts g)) same kept.2;
          },
    )

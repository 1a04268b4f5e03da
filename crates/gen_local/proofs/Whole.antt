-- Entries are judged one by one, and a whole log is one that ends with DECIDE.
use Rattle.std.proofs.Common.{◌≡◌, ◌≢◌, ℕ, zero, suc, ◌+◌, ◌<◌, ◌≤◌, inl, inr, List, [], ◌∷◌, ◌++◌, length, take, Contains, refl, sym, ap, ◌∙◌, subst, arith, length-append, append_assoc, append-nil}
use Rattle.std.proofs.lemmas.List.Elements.{Contains-append_right}
use Rattle.gen_types.proofs.Lists.{split, split_longer, not_nil, Contains_here, Contains_there}
use Rattle.gen_net.specs.Network.{Network, rounds, choose, IsNetwork}
use Rattle.gen_net.specs.Run.{Run, IsRun}
use Rattle.gen_net.specs.Follows.{Conduct, Commands, Relays, Follows}
use Rattle.gen_net.specs.Log.{LogEntry, Started, Signed, Sent, Received, Decided, IsEntry, Keeps, Precedes, place}
use Rattle.gen_net.specs.Departs.{IsFollowersLog, Begins}
use Rattle.gen_core.proofs.Decisions.{accepted_list}
use Rattle.gen_local.specs.Following.{MayFollow, GoesOn}
use Rattle.gen_local.specs.FollowingLaws.{BegunByStep, BegunByNone, BegunByOneMore, DepartsAtFirst, EndsDecided, WholeLogs}
use Rattle.gen_local.proofs.Next.{next_of_goes_on, goes_on_of_next}
use Rattle.gen_local.proofs.Steps.{goes_on, AllPairs-after}
use Rattle.gen_local.proofs.Begun.{begins_by_next}
use Rattle.gen_local.proofs.Commanding.{commander_may, commander_begins}

commander_goes_on : (net : Network) → IsNetwork net → (run : Run) (c : Conduct) → IsRun net run → Follows net run 0 c → (log : List LogEntry) → Keeps net run 0 c log → (before rest : List LogEntry) (e : LogEntry) → log ≡ before ++ e ∷ rest → MayFollow net 0 before e
commander_goes_on net ok run (Commands own) is_run f log k before rest e q = commander_may net ok run own is_run f.1 before e rest (subst (λ l. Keeps net run 0 (Commands own) l) q k)
commander_goes_on net ok run (Relays pick) is_run f log k before rest e q = absurd (f.0 refl)

begun_goes_on : (net : Network) (g : ℕ) → IsNetwork net → (entries : List LogEntry) → Begins net g entries → GoesOn net g entries
begun_goes_on net zero ok entries b before after e q =
    let l = b.1 in
    commander_goes_on net ok l.run l.conduct l.run_of_net l.follows (entries ++ b.0) l.keeps before (after ++ b.0) e (ap (λ p. p ++ b.0) q ∙ append_assoc before (e ∷ after) b.0)
begun_goes_on net (suc g) ok entries b before after e q = let ng : suc g ≢ 0 = λ e. omega arith in goes_on_of_next net (suc g) ng entries (goes_on net (suc g) ng entries b) before after e q

goes_on_begun : (net : Network) (g : ℕ) → IsNetwork net → g < net.generals → (entries : List LogEntry) → GoesOn net g entries → Begins net g entries
goes_on_begun net zero ok known entries go = commander_begins net ok entries go
goes_on_begun net (suc g) ok known entries go = let ng : suc g ≢ 0 = λ e. omega arith in begins_by_next net (suc g) known ng entries (next_of_goes_on net (suc g) ng entries go)

pub begun_by_step : BegunByStep
begun_by_step net g ok known entries = (begun_goes_on net g ok entries, goes_on_begun net g ok known entries)

pub begun_by_none : BegunByNone
begun_by_none net g ok known = goes_on_begun net g ok known [] (λ before after e q. absurd (not_nil before e after (sym q)))

pub begun_by_one_more : BegunByOneMore
begun_by_one_more net g ok known before e = (
  (λ b. ((e ∷ b.0, subst (IsFollowersLog net g) (append_assoc before (e ∷ []) b.0) b.1), begun_goes_on net g ok (before ++ e ∷ []) b before [] e refl)),
  (λ h.
      let go = begun_goes_on net g ok before h.0 in
      goes_on_begun net g ok known (before ++ e ∷ []) (λ front after x q. elim (split_longer front after before x e (sym q)) [
        | inl last ↦ subst (λ y. MayFollow net g front y) (sym last.0) (subst (λ p. MayFollow net g p e) (sym last.1) h.1)
        | inr in_it ↦ go front in_it.0 x in_it.1
      ])),
)

-- ---- where a list departs
take_front : {X : Type 0} (front back : List X) → take (length front) (front ++ back) ≡ front
take_front [] back = refl
take_front (x ∷ front) back = ap (λ xs. x ∷ xs) (take_front front back)

index_split : {X : Type 0} (xs : List X) (p : ℕ) → p < length xs → (before : List X) × (x : X) × (after : List X) × (xs ≡ before ++ x ∷ after) × (length before ≡ p)
index_split [] p l = absurd (omega arith)
index_split (x ∷ xs) zero l = ([], x, xs, refl, refl)
index_split (x ∷ xs) (suc p) l = let r = index_split xs p (omega arith) in (x ∷ r.0, r.1, r.2, ap (λ ys. x ∷ ys) r.3, ap suc r.4)

take_at : {X : Type 0} (xs before after : List X) (x : X) (p : ℕ) → xs ≡ before ++ x ∷ after → length before ≡ p → take p xs ≡ before
take_at xs before after x p q len = ap (λ ys. take p ys) q ∙ ap (λ n. take n (before ++ x ∷ after)) (sym len) ∙ take_front before (x ∷ after)

take_behind : {X : Type 0} (xs before after : List X) (x : X) (p : ℕ) → xs ≡ before ++ x ∷ after → length before ≡ p → take (p + 1) xs ≡ before ++ x ∷ []
take_behind xs before after x p q len = take_at' (xs) (q ∙ sym (append_assoc before (x ∷ []) after))
  where
    take_at' : (ys : _) → ys ≡ (before ++ x ∷ []) ++ after → take (p + 1) ys ≡ before ++ x ∷ []
    take_at' ys e =
        let long : length (before ++ x ∷ []) ≡ p + 1 = omega (arith, len, length-append before (x ∷ [])) in
        ap (λ zs. take (p + 1) zs) e ∙ ap (λ n. take n ((before ++ x ∷ []) ++ after)) (sym long) ∙ take_front (before ++ x ∷ []) after

pub departs_at_first : DepartsAtFirst
departs_at_first net g ok known entries p = (
  (λ d.
      let s = index_split entries p d.0 in
      let front = take_at entries s.0 s.2 s.1 p s.3 s.4 in
      let behind = take_behind entries s.0 s.2 s.1 p s.3 s.4 in
      let begun : Begins net g s.0 = subst (Begins net g) front d.1 in
      record {
        before = s.0;
        entry = s.1;
        after = s.2;
        split = s.3;
        index = s.4;
        begun = begun;
        refused = λ m. d.2 (subst (Begins net g) (sym behind) ((begun_by_one_more net g ok known s.0 s.1).1 (begun, m)));
      }),
  (λ f. (
    omega (arith, ap length f.split, length-append f.before (f.entry ∷ f.after), f.index),
    subst (Begins net g) (sym (take_at entries f.before f.after f.entry p f.split f.index)) f.begun,
    λ b. f.refused ((begun_by_one_more net g ok known f.before f.entry).0 (subst (Begins net g) (take_behind entries f.before f.after f.entry p f.split f.index) b)).1,
  )),
)

-- ---- whole logs
-- nothing in a log stands behind its DECIDE
entry_last : (net : Network) → IsNetwork net → (run : Run) (g : ℕ) (c : Conduct) → IsRun net run → Follows net run g c → (e : LogEntry) → IsEntry net run g c e → Precedes ((rounds net + 1) ∷ []) (place net e) → ⊥
entry_last net ok run g c is_run f (Started general own) h (inl r) = omega arith
entry_last net ok run g c is_run f (Started general own) h (inr r) = r.1
entry_last net ok run g (Commands own) is_run f (Signed v path) h r =
    let len : length path ≡ 1 = ap length h.1 in
    let some = ok.ranges.some_diameter in
    elim r [ inl q ↦ omega (arith, some) | inr q ↦ omega (arith, some, q.0) ]
entry_last net ok run g (Relays pick) is_run f (Signed v path) h r =
    let u = f.1.picks h.0 v h.2 in
    let e1 : length u.0.path ≡ h.0 = u.1.0.1 in
    let len : length path ≡ h.0 + 1 = omega (arith, ap length h.3, length-append (pick v) (g ∷ []), ap length u.3) in
    let b = h.1 in
    elim r [ inl q ↦ omega (arith, b) | inr q ↦ omega (arith, b, q.0) ]
entry_last net ok run g c is_run f (Sent to v path) h r =
    let in_time : length path ≤ rounds net = (is_run.messages (record { from = g; to = to; order = v; path = path }) h).in_time in
    elim r [ inl q ↦ omega arith | inr q ↦ omega (arith, q.0) ]
entry_last net ok run g c is_run f (Received from v path) h r =
    let in_time : length path ≤ rounds net = (is_run.messages (record { from = from; to = g; order = v; path = path }) h).in_time in
    elim r [ inl q ↦ omega arith | inr q ↦ omega (arith, q.0) ]
entry_last net ok run g c is_run f (Decided orders order) h (inl r) = omega arith
entry_last net ok run g c is_run f (Decided orders order) h (inr r) = r.1

-- a log has DECIDE
log_decides : (net : Network) (run : Run) (g : ℕ) (c : Conduct) → IsRun net run → (log : List LogEntry) → Keeps net run g c log → (orders : List ℕ) × (order : ℕ) × Contains log (Decided orders order)
log_decides net run g (Commands own) is_run log k = (own ∷ [], own, (k.entries (Decided (own ∷ []) own)).1 (refl, refl))
log_decides net run g (Relays pick) is_run log k = let a = accepted_list net run is_run g in (a.0, choose net a.0, (k.entries (Decided a.0 (choose net a.0))).1 (a.1, refl))

nothing_behind : (net : Network) → IsNetwork net → (run : Run) (g : ℕ) (c : Conduct) → IsRun net run → Follows net run g c → (before after : List LogEntry) (orders : List ℕ) (order : ℕ) → Keeps net run g c (before ++ Decided orders order ∷ after) → after ≡ []
nothing_behind net ok run g c is_run f before [] orders order k = refl
nothing_behind net ok run g c is_run f before (x ∷ after) orders order k =
    let i : IsEntry net run g c x = (k.entries x).0 (Contains-append_right before (Decided orders order ∷ x ∷ after) x (Contains_there (Decided orders order) x (x ∷ after) (Contains_here x after))) in
    absurd (entry_last net ok run g c is_run f x i (AllPairs-after (λ a b. Precedes (place net a) (place net b)) before (Decided orders order) (x ∷ after) x k.in_order (Contains_here x after)))

whole_ends : (net : Network) (g : ℕ) → IsNetwork net → (log : List LogEntry) → IsFollowersLog net g log → EndsDecided log
whole_ends net g ok log l =
    let d = log_decides net l.run g l.conduct l.run_of_net log l.keeps in
    let s = split log (Decided d.0 d.1) d.2 in
    let none : s.1 ≡ [] = nothing_behind net ok l.run g l.conduct l.run_of_net l.follows s.0 s.1 d.0 d.1 (subst (λ xs. Keeps net l.run g l.conduct xs) s.2 l.keeps) in
    (s.0, d.0, d.1, s.2 ∙ ap (λ xs. s.0 ++ Decided d.0 d.1 ∷ xs) none)

ended_whole : (net : Network) (g : ℕ) → IsNetwork net → (entries : List LogEntry) → Begins net g entries → EndsDecided entries → IsFollowersLog net g entries
ended_whole net g ok entries b d =
    let l = b.1 in
    let q : entries ++ b.0 ≡ d.0 ++ Decided d.1 d.2 ∷ b.0 = ap (λ xs. xs ++ b.0) d.3 ∙ append_assoc d.0 (Decided d.1 d.2 ∷ []) b.0 in
    let none : b.0 ≡ [] = nothing_behind net ok l.run g l.conduct l.run_of_net l.follows d.0 b.0 d.1 d.2 (subst (λ xs. Keeps net l.run g l.conduct xs) q l.keeps) in
    subst (IsFollowersLog net g) (ap (λ xs. entries ++ xs) none ∙ append-nil entries) l

pub whole_logs : WholeLogs
whole_logs net g ok known entries = (
  (λ l. (([], subst (IsFollowersLog net g) (sym (append-nil entries)) l), whole_ends net g ok entries l)),
  (λ h. ended_whole net g ok entries h.0 h.1),
)

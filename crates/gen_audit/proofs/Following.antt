-- What may follow in a log isn't refused without being refused for a reason: so a log that departs nowhere is a follower's.
use Rattle.std.proofs.Common.{◌≡◌, ℕ, ◌<◌, ◌≤◌, inl, inr, List, [], ◌∷◌, ◌++◌, length, get_or, Contains, All, Option, Some, None, refl, sym, ap, ◌∙◌, subst, arith, append_assoc, append-nil, length-append}
use Rattle.std.proofs.lemmas.Bool.{cases_eq}
use Rattle.gen_types.proofs.Lists.{decide_contains, decide_some, split_longer}
use Rattle.gen_net.specs.declared.message.Message.{Message}
use Rattle.gen_net.specs.Network.{Network, rounds, choose, AreNeighbours, IsNetwork}
use Rattle.gen_net.specs.Chain.{IsChain}
use Rattle.gen_types.specs.Ends.{BeginsWith, EndsWith}
use Rattle.gen_net.specs.Run.{IsWellFormed}
use Rattle.gen_net.specs.Log.{LogEntry, Started, Signed, Sent, Received, Decided, place, Precedes}
use Rattle.gen_net.specs.Departs.{Begins, DepartsAt, IsFollowersLog}
use Rattle.gen_local.specs.Following.{Learns, IsToSign, IsOwn, IsSound, MayFollow}
use Rattle.gen_local.specs.FollowingLaws.{EndsDecided}
use Rattle.gen_local.proofs.Whole.{begun_by_none, begun_by_one_more, departs_at_first, whole_logs}
use Rattle.gen_audit.proofs.Deciding.{Dec, both, both3, not_dec, all_dec, same_path, begins_with, in_list, has_sent, some_position}
use Rattle.gen_audit.proofs.Walking.{less, at_most, either, are_neighbours}

-- what isn't refused holds
abbrev Stable : Type 0 → Type 0
Stable P = ((P → ⊥) → ⊥) → P

stable : (P : Type 0) → Dec P → Stable P
stable P (inl p) nn = p
stable P (inr none) nn = absurd (nn none)

precedes : (xs ys : List ℕ) → Dec (Precedes xs ys)
precedes [] [] = inr (λ h. h)
precedes [] (y ∷ ys) = inl tt
precedes (x ∷ xs) [] = inr (λ h. h)
precedes (x ∷ xs) (y ∷ ys) = either (x < y) ((x ≡ y) × Precedes xs ys) (less x y) (both (x ≡ y) (Precedes xs ys) (cases_eq x y) (precedes xs ys))

ends_with : (path : List ℕ) (last : ℕ) → Dec (EndsWith path last)
ends_with path last = elim (some_position (λ front here behind. (behind ≡ []) × (here ≡ last)) (λ front here behind. both (behind ≡ []) (here ≡ last) (same_path behind []) (cases_eq here last)) path) [
  | inl p ↦ inl (p.front, p.parts ∙ ap (λ xs. p.front ++ p.here ∷ xs) p.holds.0 ∙ ap (λ x. p.front ++ x ∷ []) p.holds.1)
  | inr none ↦ inr (λ h. none (record { front = h.0; here = last; behind = []; parts = h.1; holds = (refl, refl) }))
]

one_end : (front other : List ℕ) (last : ℕ) → front ++ last ∷ [] ≡ other ++ last ∷ [] → front ≡ other
one_end front other last e = elim (split_longer front [] other last last e) [
  | inl same ↦ same.1
  | inr longer ↦ absurd (omega (arith, ap length e, ap length longer.1, length-append front (last ∷ []), length-append other (last ∷ []), length-append front (last ∷ longer.0)))
]

is_started : (g v : ℕ) (e : LogEntry) → Dec (Started g (Some v) ≡ e)
is_started g v (Started general None) = inr (λ e. cc)
is_started g v (Started general (Some own)) = elim (both (g ≡ general) (v ≡ own) (cases_eq g general) (cases_eq v own)) [
  | inl h ↦ inl (ap (λ x. Started x (Some v)) h.0 ∙ ap (λ w. Started general (Some w)) h.1)
  | inr ne ↦ inr (λ e. let a : g ≡ general = cc in let b : v ≡ own = cc in ne (a, b))
]
is_started g v (Signed order path) = inr (λ e. cc)
is_started g v (Sent to order path) = inr (λ e. cc)
is_started g v (Received from order path) = inr (λ e. cc)
is_started g v (Decided orders order) = inr (λ e. cc)

is_signed : (v : ℕ) (path : List ℕ) (e : LogEntry) → Dec (Signed v path ≡ e)
is_signed v path (Started general own) = inr (λ e. cc)
is_signed v path (Signed order other) = elim (both (v ≡ order) (path ≡ other) (cases_eq v order) (same_path path other)) [
  | inl h ↦ inl (ap (λ w. Signed w path) h.0 ∙ ap (λ p. Signed order p) h.1)
  | inr ne ↦ inr (λ e. let a : v ≡ order = cc in let b : path ≡ other = cc in ne (a, b))
]
is_signed v path (Sent to order other) = inr (λ e. cc)
is_signed v path (Received from order other) = inr (λ e. cc)
is_signed v path (Decided orders order) = inr (λ e. cc)

-- a START of g, with whatever order
start_of : (g : ℕ) (e : LogEntry) → Dec ((own : Option ℕ) × (e ≡ Started g own))
start_of g (Started general own) = elim (cases_eq general g) [
  | inl same ↦ inl (own, ap (λ x. Started x own) same)
  | inr ne ↦ inr (λ h. let e : Started general own ≡ Started g h.0 = h.1 in let a : general ≡ g = cc in ne a)
]
start_of g (Signed order path) = inr (λ h. let e : Signed order path ≡ Started g h.0 = h.1 in cc)
start_of g (Sent to order path) = inr (λ h. let e : Sent to order path ≡ Started g h.0 = h.1 in cc)
start_of g (Received from order path) = inr (λ h. let e : Received from order path ≡ Started g h.0 = h.1 in cc)
start_of g (Decided orders order) = inr (λ h. let e : Decided orders order ≡ Started g h.0 = h.1 in cc)

-- a SIGN of v, with whatever path
sign_of : (v : ℕ) (e : LogEntry) → Dec ((path : List ℕ) × (e ≡ Signed v path))
sign_of v (Signed order path) = elim (cases_eq order v) [
  | inl same ↦ inl (path, ap (λ w. Signed w path) same)
  | inr ne ↦ inr (λ h. let e : Signed order path ≡ Signed v h.0 = h.1 in let a : order ≡ v = cc in ne a)
]
sign_of v (Started general own) = inr (λ h. let e : Started general own ≡ Signed v h.0 = h.1 in cc)
sign_of v (Sent to order path) = inr (λ h. let e : Sent to order path ≡ Signed v h.0 = h.1 in cc)
sign_of v (Received from order path) = inr (λ h. let e : Received from order path ≡ Signed v h.0 = h.1 in cc)
sign_of v (Decided orders order) = inr (λ h. let e : Decided orders order ≡ Signed v h.0 = h.1 in cc)

-- a RECV of v, from whomever, by this path
recv_by : (v : ℕ) (path : List ℕ) (e : LogEntry) → Dec ((from : ℕ) × (e ≡ Received from v path))
recv_by v path (Received from order other) = elim (both (order ≡ v) (other ≡ path) (cases_eq order v) (same_path other path)) [
  | inl h ↦ inl (from, ap (λ w. Received from w other) h.0 ∙ ap (λ p. Received from v p) h.1)
  | inr ne ↦ inr (λ h. let e : Received from order other ≡ Received h.0 v path = h.1 in let a : order ≡ v = cc in let b : other ≡ path = cc in ne (a, b))
]
recv_by v path (Started general own) = inr (λ h. let e : Started general own ≡ Received h.0 v path = h.1 in cc)
recv_by v path (Signed order other) = inr (λ h. let e : Signed order other ≡ Received h.0 v path = h.1 in cc)
recv_by v path (Sent to order other) = inr (λ h. let e : Sent to order other ≡ Received h.0 v path = h.1 in cc)
recv_by v path (Decided orders order) = inr (λ h. let e : Decided orders order ≡ Received h.0 v path = h.1 in cc)

-- a RECV of v, from whomever, by whatever path
recv_of : (v : ℕ) (e : LogEntry) → Dec ((from : ℕ) × (path : List ℕ) × (e ≡ Received from v path))
recv_of v (Received from order path) = elim (cases_eq order v) [
  | inl same ↦ inl (from, path, ap (λ w. Received from w path) same)
  | inr ne ↦ inr (λ h. let e : Received from order path ≡ Received h.0 v h.1 = h.2 in let a : order ≡ v = cc in ne a)
]
recv_of v (Started general own) = inr (λ h. let e : Started general own ≡ Received h.0 v h.1 = h.2 in cc)
recv_of v (Signed order path) = inr (λ h. let e : Signed order path ≡ Received h.0 v h.1 = h.2 in cc)
recv_of v (Sent to order path) = inr (λ h. let e : Sent to order path ≡ Received h.0 v h.1 = h.2 in cc)
recv_of v (Decided orders order) = inr (λ h. let e : Decided orders order ≡ Received h.0 v h.1 = h.2 in cc)

module _ (net : Network) (g : ℕ) (before : List LogEntry) where
  has_own : (v : ℕ) → Dec (Contains before (Started g (Some v)))
  has_own v = in_list (Started g (Some v)) (is_started g v) before

  has_start : Dec ((own : Option ℕ) × Contains before (Started g own))
  has_start = elim (decide_some (λ e. (own : Option ℕ) × (e ≡ Started g own)) (start_of g) before) [
    | inl s ↦ inl (s.2.0, subst (Contains before) s.2.1 s.1)
    | inr none ↦ inr (λ h. none (Started g h.0) h.1 (h.0, refl))
  ]

  has_sign : (v : ℕ) → Dec ((path : List ℕ) × Contains before (Signed v path))
  has_sign v = elim (decide_some (λ e. (path : List ℕ) × (e ≡ Signed v path)) (sign_of v) before) [
    | inl s ↦ inl (s.2.0, subst (Contains before) s.2.1 s.1)
    | inr none ↦ inr (λ h. none (Signed v h.0) h.1 (h.0, refl))
  ]

  has_recv : (v : ℕ) (path : List ℕ) → Dec ((from : ℕ) × Contains before (Received from v path))
  has_recv v path = elim (decide_some (λ e. (from : ℕ) × (e ≡ Received from v path)) (recv_by v path) before) [
    | inl s ↦ inl (s.2.0, subst (Contains before) s.2.1 s.1)
    | inr none ↦ inr (λ h. none (Received h.0 v path) h.1 (h.0, refl))
  ]

  learns : (v : ℕ) (path : List ℕ) → Dec (Learns g before v path)
  learns v path = either (Contains before (Started g (Some v)) × (path ≡ [])) ((from : ℕ) × Contains before (Received from v path)) (both (Contains before (Started g (Some v))) (path ≡ []) (has_own v) (same_path path [])) (has_recv v path)

  learnt : (v : ℕ) → Dec ((path : List ℕ) × Learns g before v path)
  learnt v = elim (has_own v) [
    | inl own ↦ inl ([], inl (own, refl))
    | inr no_own ↦ elim (decide_some (λ e. (from : ℕ) × (path : List ℕ) × (e ≡ Received from v path)) (recv_of v) before) [
      | inl s ↦ inl (s.2.1, inr (s.2.0, subst (Contains before) s.2.2 s.1))
      | inr none ↦ inr (λ h. elim h.1 [ inl own ↦ no_own own.0 | inr r ↦ none (Received r.0 v h.0) r.1 (r.0, h.0, refl) ])
    ]
  ]

  is_own : (own : Option ℕ) → Dec (IsOwn net g own)
  is_own None = not_dec (g ≡ 0) (cases_eq g 0)
  is_own (Some v) = both (g ≡ 0) (v < net.orders) (cases_eq g 0) (less v net.orders)

  to_sign : (v : ℕ) (path : List ℕ) → Stable (IsToSign net g before v path)
  to_sign v path nn = elim (ends_with path g) [
    | inr none ↦ absurd (nn (λ t. none (t.picked, t.longer)))
    | inl end ↦
        let same : (t : IsToSign net g before v path) → t.picked ≡ end.0 = λ t. one_end t.picked end.0 g (sym t.longer ∙ end.1) in
        record {
          picked = end.0;
          learns = stable (Learns g before v end.0) (learns v end.0) (λ none. nn (λ t. none (subst (Learns g before v) (same t) t.learns)));
          shortest = λ other h. stable (length end.0 ≤ length other) (at_most (length end.0) (length other)) (λ none. nn (λ t. none (subst (λ p. length p ≤ length other) (same t) (t.shortest other h))));
          in_time = stable (length end.0 < rounds net) (less (length end.0) (rounds net)) (λ none. nn (λ t. none (subst (λ p. length p < rounds net) (same t) t.in_time)));
          longer = end.1;
        }
  ]

  chain_stable : (v : ℕ) (path : List ℕ) → Stable (IsChain net v path)
  chain_stable v path nn = record {
    order_known = stable (v < net.orders) (less v net.orders) (λ none. nn (λ c. none c.order_known));
    generals_known = stable (All (λ x. x < net.generals) path) (all_dec (λ x. x < net.generals) (λ x. less x net.generals) path) (λ none. nn (λ c. none c.generals_known));
    distinct = λ i j d l m e. nn (λ c. c.distinct i j d l m e);
    from_commander = stable (BeginsWith path (0 ∷ [])) (begins_with path (0 ∷ [])) (λ none. nn (λ c. none c.from_commander));
  }

  well_formed : (m : Message) → Stable (IsWellFormed net m)
  well_formed m nn = record {
    on_edge = stable (AreNeighbours net m.from m.to) (are_neighbours net m.from m.to) (λ none. nn (λ w. none w.on_edge));
    chain = chain_stable m.order m.path (λ none. nn (λ w. none w.chain));
    in_time = stable (length m.path ≤ rounds net) (at_most (length m.path) (rounds net)) (λ none. nn (λ w. none w.in_time));
    signer = stable (EndsWith m.path m.from) (ends_with m.path m.from) (λ none. nn (λ w. none w.signer));
    outside = λ h. nn (λ w. w.outside h);
  }

  sound : (e : LogEntry) → Stable (IsSound net g before e)
  sound (Started general own) nn = stable ((general ≡ g) × IsOwn net g own) (both (general ≡ g) (IsOwn net g own) (cases_eq general g) (is_own own)) nn
  sound (Signed order path) nn = to_sign order path nn
  sound (Sent to order path) nn = stable (Contains before (Signed order path) × AreNeighbours net g to × (Contains path to → ⊥))
      (both3 (Contains before (Signed order path)) (AreNeighbours net g to) (Contains path to → ⊥) (in_list (Signed order path) (is_signed order path) before) (are_neighbours net g to) (not_dec (Contains path to) (decide_contains path to))) nn
  sound (Received from order path) nn = well_formed (record { from = from; to = g; order = order; path = path }) nn
  sound (Decided orders order) nn = (
    record {
      ascending = λ i j d l m. stable (get_or orders i d < get_or orders j d) (less (get_or orders i d) (get_or orders j d)) (λ none. nn (λ s. none (s.0.ascending i j d l m)));
      members = λ v. (
        (λ h. stable ((path : List ℕ) × Learns g before v path) (learnt v) (λ none. nn (λ s. none ((s.0.members v).0 h)))),
        (λ p. stable (Contains orders v) (decide_contains orders v) (λ none. nn (λ s. none ((s.0.members v).1 p)))),
      );
    },
    stable (order ≡ choose net orders) (cases_eq order (choose net orders)) (λ none. nn (λ s. none s.1)),
  )

  may_follow : (e : LogEntry) → Stable (MayFollow net g before e)
  may_follow e nn = record {
    in_place = λ x h. stable (Precedes (place net x) (place net e)) (precedes (place net x) (place net e)) (λ none. nn (λ m. none (m.in_place x h)));
    sound = sound e (λ none. nn (λ m. none m.sound));
    started = λ r. stable ((own : Option ℕ) × Contains before (Started g own)) has_start (λ none. nn (λ m. none (m.started r)));
    signed = λ v path t r. stable ((other : List ℕ) × Contains before (Signed v other)) (has_sign v) (λ none. nn (λ m. none (m.signed v path t r)));
    sent = λ to v path h near out r. stable (Contains before (Sent to v path)) (has_sent before to v path) (λ none. nn (λ m. none (m.sent to v path h near out r)));
  }

-- a list that departs nowhere begins a log
begins : (net : Network) (g : ℕ) → IsNetwork net → g < net.generals → (entries : List LogEntry) → ((p : ℕ) → DepartsAt net g entries p → ⊥) → (before rest : List LogEntry) → entries ≡ before ++ rest → Begins net g before → Begins net g entries
begins net g ok known entries none before [] q begun = subst (Begins net g) (sym (q ∙ append-nil before)) begun
begins net g ok known entries none before (e ∷ rest) q begun =
    let m : MayFollow net g before e = may_follow net g before e (λ refused. none (length before) ((departs_at_first net g ok known entries (length before)).1 (record { before = before; entry = e; after = rest; split = q; index = refl; begun = begun; refused = refused }))) in
    begins net g ok known entries none (before ++ e ∷ []) rest (q ∙ sym (append_assoc before (e ∷ []) rest)) ((begun_by_one_more net g ok known before e).1 (begun, m))

-- a list that ends with DECIDE and departs nowhere is a follower's log
pub departs_or_follows : (net : Network) (g : ℕ) → IsNetwork net → g < net.generals → (entries : List LogEntry) → EndsDecided entries → ((p : ℕ) → DepartsAt net g entries p → ⊥) → IsFollowersLog net g entries
departs_or_follows net g ok known entries ends none = (whole_logs net g ok known entries).1 (begins net g ok known entries none [] entries refl (begun_by_none net g ok known), ends)

-- An entry that may follow brings its order on, and leaves the others.
use Rattle.std.proofs.Common.{◌≡◌, ℕ, ◌+◌, ◌<◌, ◌≤◌, ◌⊎◌, inl, inr, List, [], ◌∷◌, ◌++◌, length, Contains, Option, Some, None, refl, sym, ap, ◌∙◌, subst, arith, length-append}
use Rattle.std.specs.Prelude.{slice_index_or}
use Rattle.std.proofs.lemmas.Bool.{cases_eq, cases_lt}
use Rattle.std.proofs.lemmas.List.Elements.{Contains-append_left, Contains-push, Contains-push_cases}
use Rattle.gen_types.proofs.Lists.{Contains_nil}
use Rattle.gen_net.specs.Network.{Network, IsNetwork}
use Rattle.gen_net.specs.Log.{LogEntry, Started, Signed, Sent, Received, Decided, place, Precedes}
use Rattle.gen_local.specs.Following.{Learns, IsToSign, IsSound, MayFollow}
use Rattle.gen_local.specs.declared.progress.Progress.{Progress}
use Rattle.gen_local.specs.declared.progress.Progress.TheVariants.{Unlearnt, Learnt, Relayed}
use Rattle.gen_local.specs.Keys.{key, IsSmall}
use Rattle.gen_local.specs.Walking.Brought.{IsNextDue, Brings, IsOf, AreBrought}
use Rattle.gen_local.specs.Walking.State.{IsUnsigned, IsLearnt, IsRelayedBelow, HasCome, IsAfter}
use Rattle.gen_local.specs.Walking.Judged.{CanSign, CanSend, HasStarted}
use Rattle.gen_local.proofs.StateJudges.{may_judged}

decide_of : (v : ℕ) (e : LogEntry) → IsOf v e ⊎ (IsOf v e → ⊥)
decide_of v (Started general None) = inr (λ h. h)
decide_of v (Started general (Some own)) = cases_eq own v
decide_of v (Signed order path) = cases_eq order v
decide_of v (Sent to order path) = cases_eq order v
decide_of v (Received from order path) = cases_eq order v
decide_of v (Decided set order) = inr (λ h. h)

-- Of the entries with one more those that aren't the last stand before it.
module _ (g : ℕ) (before : List LogEntry) (e : LogEntry) (v : ℕ) where
  abbrev longer : List LogEntry
  longer = before ++ e ∷ []

  kept : (x : LogEntry) → Contains before x → Contains longer x
  kept x h = Contains-append_left before (e ∷ []) x h

  learns_kept : (path : List ℕ) → Learns g before v path → Learns g longer v path
  learns_kept path (inl h) = inl (kept (Started g (Some v)) h.0, h.1)
  learns_kept path (inr h) = inr (h.0, kept (Received h.0 v path) h.1)

  -- what is said of v stands before, where the last isn't of v
  earlier : (IsOf v e → ⊥) → (x : LogEntry) → IsOf v x → Contains longer x → Contains before x
  earlier other x of h = elim (Contains-push_cases before e x h) [
    | inl k ↦ k
    | inr q ↦ absurd (other (subst (IsOf v) (sym q) of))
  ]

  learns_earlier : (IsOf v e → ⊥) → (path : List ℕ) → Learns g longer v path → Learns g before v path
  learns_earlier other path (inl h) = inl (earlier other (Started g (Some v)) refl h.0, h.1)
  learns_earlier other path (inr h) = inr (h.0, earlier other (Received h.0 v path) refl h.1)

  unsigned_kept : ((path : List ℕ) → e ≡ Signed v path → ⊥) → ((to : ℕ) (path : List ℕ) → e ≡ Sent to v path → ⊥) → IsUnsigned before v → IsUnsigned longer v
  unsigned_kept a b u = record {
    unsigned = λ path h. elim (Contains-push_cases before e (Signed v path) h) [ inl k ↦ u.unsigned path k | inr q ↦ a path q ];
    unsent = λ to path h. elim (Contains-push_cases before e (Sent to v path) h) [ inl k ↦ u.unsent to path k | inr q ↦ b to path q ];
  }

  come_kept : (net : Network) (s : Progress) → (IsOf v e → ⊥) → HasCome net g before v s → HasCome net g longer v s
  come_kept net Unlearnt other c = record {
    unknown = λ path l. c.unknown path (learns_earlier other path l);
    not_yet = unsigned_kept (λ path q. other (subst (IsOf v) (sym q) refl)) (λ to path q. other (subst (IsOf v) (sym q) refl)) c.not_yet;
  }
  come_kept net (Learnt round) other c = record {
    path = c.path;
    learns = learns_kept c.path c.learns;
    len = c.len;
    first = λ path l. c.first path (learns_earlier other path l);
    not_yet = unsigned_kept (λ path q. other (subst (IsOf v) (sym q) refl)) (λ to path q. other (subst (IsOf v) (sym q) refl)) c.not_yet;
  }
  come_kept net (Relayed path next) other c = record {
    known = c.known;
    learns = learns_kept c.known c.learns;
    first = λ p l. c.first p (learns_earlier other p l);
    len = c.len;
    signed = kept (Signed v path) c.signed;
    only = λ p h. c.only p (earlier other (Signed v p) refl h);
    sent = λ to l d. kept (Sent to v path) (c.sent to l d);
    unsent = λ to p h. c.unsent to p (earlier other (Sent to v p) refl h);
    due = c.due;
  }

  -- a RECV is of no lesser round than all by which the order was learnt before
  recv_later : (net : Network) (from : ℕ) (path other : List ℕ) → e ≡ Received from v path → ((x : LogEntry) → Contains before x → Precedes (place net x) (place net e)) → Learns g before v other → length other ≤ length path
  recv_later net from path other q placed (inl h) = omega (arith, ap length h.1)
  recv_later net from path other q placed (inr h) = elim (subst (λ x. Precedes (place net (Received h.0 v other)) (place net x)) q (placed (Received h.0 v other) h.1)) [
    | inl l ↦ omega (arith, l)
    | inr r ↦ omega (arith, r.0)
  ]

  learns_cases : (from : ℕ) (path other : List ℕ) → e ≡ Received from v path → Learns g longer v other → Learns g before v other ⊎ (other ≡ path)
  learns_cases from path other q (inl h) = elim (Contains-push_cases before e (Started g (Some v)) h.0) [
    | inl k ↦ inl (inl (k, h.1))
    | inr r ↦ let s : Received from v path ≡ Started g (Some v) = sym q ∙ r in absurd (cc)
  ]
  learns_cases from path other q (inr h) = elim (Contains-push_cases before e (Received h.0 v other) h.1) [
    | inl k ↦ inl (inr (h.0, k))
    | inr r ↦ let s : Received from v path ≡ Received h.0 v other = sym q ∙ r in inr (cc)
  ]

-- ---- each kind of entry brings its order on
module _ (net : Network) (g : ℕ) (before : List LogEntry) (v : ℕ) where
  came_by_start : (e : LogEntry) → e ≡ Started g (Some v) → ((x : LogEntry) → Contains before x → ⊥) → IsLearnt net g (before ++ e ∷ []) v 0
  came_by_start e q none = record {
    path = [];
    learns = inl (subst (λ x. Contains (before ++ e ∷ []) x) q (Contains-push before e), refl);
    len = refl;
    first = λ other l. omega arith;
    not_yet = record {
      unsigned = λ path h. elim (Contains-push_cases before e (Signed v path) h) [ inl k ↦ none (Signed v path) k | inr r ↦ let s : Started g (Some v) ≡ Signed v path = sym q ∙ r in cc ];
      unsent = λ to path h. elim (Contains-push_cases before e (Sent to v path) h) [ inl k ↦ none (Sent to v path) k | inr r ↦ let s : Started g (Some v) ≡ Sent to v path = sym q ∙ r in cc ];
    };
  }

  learns_by_sign : (e : LogEntry) (path other : List ℕ) → e ≡ Signed v path → Learns g (before ++ e ∷ []) v other → Learns g before v other
  learns_by_sign e path other q (inl h) = elim (Contains-push_cases before e (Started g (Some v)) h.0) [ inl k ↦ inl (k, h.1) | inr r ↦ let s : Signed v path ≡ Started g (Some v) = sym q ∙ r in absurd (cc) ]
  learns_by_sign e path other q (inr h) = elim (Contains-push_cases before e (Received h.0 v other) h.1) [ inl k ↦ inr (h.0, k) | inr r ↦ let s : Signed v path ≡ Received h.0 v other = sym q ∙ r in absurd (cc) ]

  learns_by_send : (e : LogEntry) (to : ℕ) (path other : List ℕ) → e ≡ Sent to v path → Learns g (before ++ e ∷ []) v other → Learns g before v other
  learns_by_send e to path other q (inl h) = elim (Contains-push_cases before e (Started g (Some v)) h.0) [ inl k ↦ inl (k, h.1) | inr r ↦ let s : Sent to v path ≡ Started g (Some v) = sym q ∙ r in absurd (cc) ]
  learns_by_send e to path other q (inr h) = elim (Contains-push_cases before e (Received h.0 v other) h.1) [ inl k ↦ inr (h.0, k) | inr r ↦ let s : Sent to v path ≡ Received h.0 v other = sym q ∙ r in absurd (cc) ]

  signed_from : (e : LogEntry) (path : List ℕ) (next : ℕ) → e ≡ Signed v path → IsUnsigned before v → IsToSign net g before v path → IsNextDue net g path 0 next → IsRelayedBelow net g (before ++ e ∷ []) v path next
  signed_from e path next q u t n = record {
    known = t.picked;
    learns = learns_kept g before e v t.picked t.learns;
    first = λ other l. t.shortest other (learns_by_sign e path other q l);
    len = omega (arith, ap length t.longer, length-append t.picked (g ∷ []));
    signed = subst (λ x. Contains (before ++ e ∷ []) x) q (Contains-push before e);
    only = λ other h. elim (Contains-push_cases before e (Signed v other) h) [ inl k ↦ absurd (u.unsigned other k) | inr r ↦ let s : Signed v path ≡ Signed v other = sym q ∙ r in cc ];
    sent = λ to l d. absurd (n.least to (omega arith) l d);
    unsent = λ to other h. elim (Contains-push_cases before e (Sent to v other) h) [ inl k ↦ absurd (u.unsent to other k) | inr r ↦ let s : Signed v path ≡ Sent to v other = sym q ∙ r in absurd (cc) ];
    due = n.due;
  }

  come_signed : (e : LogEntry) (path : List ℕ) (s new : Progress) → e ≡ Signed v path → HasCome net g before v s → CanSign net g before v s path → IsToSign net g before v path → Brings net g v s (Signed v path) new → HasCome net g (before ++ e ∷ []) v new
  come_signed e path Unlearnt new q c can t b = absurd can
  come_signed e path (Learnt round) new q c can t b = subst (HasCome net g (before ++ e ∷ []) v) (sym b.2) (signed_from e path b.0 q c.not_yet t b.1)
  come_signed e path (Relayed other next) new q c can t b = absurd can

  sent_on : (e : LogEntry) (to : ℕ) (path : List ℕ) (next : ℕ) → e ≡ Sent to v path → IsRelayedBelow net g before v path to → IsNextDue net g path (to + 1) next → IsRelayedBelow net g (before ++ e ∷ []) v path next
  sent_on e to path next q c n = record {
    known = c.known;
    learns = learns_kept g before e v c.known c.learns;
    first = λ other l. c.first other (learns_by_send e to path other q l);
    len = c.len;
    signed = kept g before e v (Signed v path) c.signed;
    only = λ other h. elim (Contains-push_cases before e (Signed v other) h) [ inl k ↦ c.only other k | inr r ↦ let s : Sent to v path ≡ Signed v other = sym q ∙ r in absurd (cc) ];
    sent = λ t l d. elim (cases_lt t to) [
      | inl less ↦ kept g before e v (Sent t v path) (c.sent t less d)
      | inr more ↦ elim (cases_eq t to) [
        | inl same ↦ subst (λ x. Contains (before ++ e ∷ []) (Sent x v path)) (sym same) (subst (λ x. Contains (before ++ e ∷ []) x) q (Contains-push before e))
        | inr ne ↦ absurd (n.least t (omega (arith, more, ne)) l d)
      ]
    ];
    unsent = λ t other h. elim (Contains-push_cases before e (Sent t v other) h) [
      | inl k ↦ let l = c.unsent t other k in let m = n.after in omega (arith, l, m)
      | inr r ↦ let s : Sent to v path ≡ Sent t v other = sym q ∙ r in let same : to ≡ t = cc in let m = n.after in omega (arith, same, m)
    ];
    due = n.due;
  }

  come_sent : (e : LogEntry) (to : ℕ) (path : List ℕ) (s new : Progress) → e ≡ Sent to v path → HasCome net g before v s → CanSend net s to path → Brings net g v s (Sent to v path) new → HasCome net g (before ++ e ∷ []) v new
  come_sent e to path Unlearnt new q c can b = absurd can
  come_sent e to path (Learnt round) new q c can b = absurd can
  come_sent e to path (Relayed other next) new q c can b =
      let c1 : IsRelayedBelow net g before v path next = subst (λ p. IsRelayedBelow net g before v p next) can.2 c in
      let c2 : IsRelayedBelow net g before v path to = subst (λ n. IsRelayedBelow net g before v path n) can.1 c1 in
      subst (HasCome net g (before ++ e ∷ []) v) (sym b.2) (sent_on e to path b.0 q c2 b.1)

  module _ (e : LogEntry) (from : ℕ) (path : List ℕ) (q : e ≡ Received from v path) (placed : (x : LogEntry) → Contains before x → Precedes (place net x) (place net e)) where
    still : IsUnsigned before v → IsUnsigned (before ++ e ∷ []) v
    still u = unsigned_kept g before e v (λ p r. let s : Received from v path ≡ Signed v p = sym q ∙ r in cc) (λ to p r. let s : Received from v path ≡ Sent to v p = sym q ∙ r in cc) u

    come_received : (s new : Progress) → HasCome net g before v s → Brings net g v s (Received from v path) new → HasCome net g (before ++ e ∷ []) v new
    come_received Unlearnt new c b = subst (HasCome net g (before ++ e ∷ []) v) (sym b) (record {
      path = path;
      learns = inr (from, subst (λ x. Contains (before ++ e ∷ []) x) q (Contains-push before e));
      len = refl;
      first = λ other l. elim (learns_cases g before e v from path other q l) [
        | inl k ↦ absurd (c.unknown other k)
        | inr same ↦ omega (arith, ap length same)
      ];
      not_yet = still c.not_yet;
    })
    come_received (Learnt round) new c b = subst (HasCome net g (before ++ e ∷ []) v) (sym b) (record {
      path = c.path;
      learns = learns_kept g before e v c.path c.learns;
      len = c.len;
      first = λ other l. elim (learns_cases g before e v from path other q l) [
        | inl k ↦ c.first other k
        | inr same ↦ let r = recv_later g before e v net from path c.path q placed c.learns in omega (arith, r, c.len, ap length same)
      ];
      not_yet = still c.not_yet;
    })
    come_received (Relayed p next) new c b = subst (HasCome net g (before ++ e ∷ []) v) (sym b) (record {
      known = c.known;
      learns = learns_kept g before e v c.known c.learns;
      first = λ other l. elim (learns_cases g before e v from path other q l) [
        | inl k ↦ c.first other k
        | inr same ↦ let r = recv_later g before e v net from path c.known q placed c.learns in omega (arith, r, ap length same)
      ];
      len = c.len;
      signed = kept g before e v (Signed v p) c.signed;
      only = λ other h. elim (Contains-push_cases before e (Signed v other) h) [ inl k ↦ c.only other k | inr r ↦ let s : Received from v path ≡ Signed v other = sym q ∙ r in absurd (cc) ];
      sent = λ to l d. kept g before e v (Sent to v p) (c.sent to l d);
      unsent = λ to other h. elim (Contains-push_cases before e (Sent to v other) h) [ inl k ↦ c.unsent to other k | inr r ↦ let s : Received from v path ≡ Sent to v other = sym q ∙ r in absurd (cc) ];
      due = c.due;
    })

module _ (net : Network) (ok : IsNetwork net) (g : ℕ) (before : List LogEntry) (least : ℕ) (orders new : List Progress) (a : IsAfter net g before least orders) where
  come : (e : LogEntry) (small : IsSmall e) (m : MayFollow net g before e) (v : ℕ) → IsOf v e → HasCome net g before v (slice_index_or orders v Unlearnt) → Brings net g v (slice_index_or orders v Unlearnt) e (slice_index_or new v Unlearnt) → HasCome net g (before ++ e ∷ []) v (slice_index_or new v Unlearnt)
  come (Started general None) small m v of c b = absurd of
  come (Started general (Some own)) small m v of c b =
      let e : LogEntry = Started general (Some own) in
      let general_is : general ≡ g = m.sound.0 in
      let q : e ≡ Started g (Some v) = cc in
      let j = may_judged net ok g before least orders a e small m in
      let placed : least ≤ 0 = j.in_place in
      subst (HasCome net g (before ++ e ∷ []) v) (sym b) (came_by_start net g before v e q (λ x h. let l = a.below x h in omega (arith, l, placed)))
  come (Signed order path) small m v of c b =
      let e : LogEntry = Signed order path in
      let q : e ≡ Signed v path = ap (λ w. Signed w path) of in
      let j = may_judged net ok g before least orders a e small m in
      come_signed net g before v e path (slice_index_or orders v Unlearnt) (slice_index_or new v Unlearnt) q c
      (subst (λ w. CanSign net g before w (slice_index_or orders w Unlearnt) path) of j.allowed)
      (subst (λ w. IsToSign net g before w path) of m.sound) b
  come (Sent to order path) small m v of c b =
      let e : LogEntry = Sent to order path in
      let q : e ≡ Sent to v path = ap (λ w. Sent to w path) of in
      let j = may_judged net ok g before least orders a e small m in
      come_sent net g before v e to path (slice_index_or orders v Unlearnt) (slice_index_or new v Unlearnt) q c
      (subst (λ w. CanSend net (slice_index_or orders w Unlearnt) to path) of j.allowed) b
  come (Received from order path) small m v of c b =
      let e : LogEntry = Received from order path in
      let q : e ≡ Received from v path = ap (λ w. Received from w path) of in
      come_received net g before v e from path q m.in_place (slice_index_or orders v Unlearnt) (slice_index_or new v Unlearnt) c (recv_brings from order path v (slice_index_or orders v Unlearnt) (slice_index_or new v Unlearnt) b)
    where
      recv_brings : (f o : ℕ) (p : List ℕ) (w : ℕ) (s t : Progress) → Brings net g w s (Received f o p) t → Brings net g w s (Received f w p) t
      recv_brings f o p w Unlearnt t h = h
      recv_brings f o p w (Learnt round) t h = h
      recv_brings f o p w (Relayed path' next) t h = h
  come (Decided set order) small m v of c b = absurd of

  has_start : (e : LogEntry) → HasStarted least e → IsSound net g before e → (own : Option ℕ) × Contains (before ++ e ∷ []) (Started g own)
  has_start (Started general own) h s = (own, subst (λ x. Contains (before ++ Started general own ∷ []) (Started x own)) s.0 (Contains-push before (Started general own)))
  has_start (Signed v path) h s = let r = a.started h in (r.0, Contains-append_left before (Signed v path ∷ []) (Started g r.0) r.1)
  has_start (Sent to v path) h s = let r = a.started h in (r.0, Contains-append_left before (Sent to v path ∷ []) (Started g r.0) r.1)
  has_start (Received from v path) h s = let r = a.started h in (r.0, Contains-append_left before (Received from v path ∷ []) (Started g r.0) r.1)
  has_start (Decided set order) h s = let r = a.started h in (r.0, Contains-append_left before (Decided set order ∷ []) (Started g r.0) r.1)

  pub after_more : (e : LogEntry) (small : IsSmall e) (m : MayFollow net g before e) → AreBrought net g orders e new → IsAfter net g (before ++ e ∷ []) (key net e + 1) new
  after_more e small m b =
      let j = may_judged net ok g before least orders a e small m in
      record {
        all = b.all;
        small = λ x h. elim (Contains-push_cases before e x h) [ inl k ↦ a.small x k | inr q ↦ subst IsSmall q small ];
        below = λ x h. elim (Contains-push_cases before e x h) [
          | inl k ↦ let l = a.below x k in let p = j.in_place in omega (arith, l, p)
          | inr q ↦ omega (arith, ap (key net) q)
        ];
        last = λ k q. (e, Contains-push before e, omega (arith, q));
        started = λ h. has_start e j.started m.sound;
        each = λ v low. elim (decide_of v e) [
          | inl of ↦ come e small m v of (a.each v low) (b.own v low of)
          | inr other ↦ subst (HasCome net g (before ++ e ∷ []) v) (sym (b.others v low other)) (come_kept g before e v net (slice_index_or orders v Unlearnt) other (a.each v low))
        ];
      }

pub after_none : (net : Network) (g : ℕ) (orders : List Progress) → length orders ≡ 16 → ((v : ℕ) → v < 16 → slice_index_or orders v Unlearnt ≡ Unlearnt) → IsAfter net g [] 0 orders
after_none net g orders all same = record {
  all = all;
  small = λ x h. absurd (Contains_nil x h);
  below = λ x h. absurd (Contains_nil x h);
  last = λ k q. absurd (omega (arith, q));
  started = λ h. absurd (omega (arith, h));
  each = λ v low. subst (HasCome net g [] v) (sym (same v low)) (record {
    unknown = λ path l. nothing_learnt v path l;
    not_yet = record { unsigned = λ path h. Contains_nil (Signed v path) h; unsent = λ to path h. Contains_nil (Sent to v path) h };
  });
}
  where
    nothing_learnt : (v : ℕ) (path : List ℕ) → Learns g [] v path → ⊥
    nothing_learnt v path (inl h) = Contains_nil (Started g (Some v)) h.0
    nothing_learnt v path (inr h) = Contains_nil (Received h.0 v path) h.1

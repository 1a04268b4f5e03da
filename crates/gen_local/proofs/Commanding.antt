-- The commander's entries, judged one by one.
use Rattle.std.proofs.Common.{◌≡◌, ℕ, ◌+◌, ◌<◌, ◌⊎◌, inl, inr, List, [], ◌∷◌, ◌++◌, length, Contains, AllPairs, Option, Some, None, refl, sym, ap, ◌∙◌, subst, arith}
use Rattle.std.specs.List.{flat_map}
use Rattle.std.proofs.lemmas.List.Elements.{Contains-append_left, All-push, All-nil}
use Rattle.std.proofs.lemmas.Bool.{cases_eq}
use Rattle.gen_types.specs.Ascending.{IsListOf}
use Rattle.gen_types.specs.ChoiceOf.{choice_of-one}
use Rattle.gen_types.proofs.Lists.{split, decide_some, Contains_here, Contains-middle}
use Rattle.gen_net.specs.declared.message.Message.{Message}
use Rattle.gen_net.specs.Network.{Network, rounds, choose, AreNeighbours, IsNetwork}
use Rattle.gen_net.specs.Run.{Run, IsWellFormed, IsRun}
use Rattle.gen_net.specs.Follows.{Commands, CommanderFollows}
use Rattle.gen_net.specs.Log.{LogEntry, Started, Signed, Sent, Received, Decided, IsEntry, Keeps, Precedes, place}
use Rattle.gen_net.specs.Departs.{Begins}
use Rattle.gen_local.specs.Following.{Learns, IsToSign, IsOwn, IsSound, MayFollow, GoesOn}
use Rattle.gen_core.proofs.OrderedLists.{AllPairs-total, Precedes-apart, Precedes-trans, list_of_same, list_of_one, one_list, only, Contains_flat_mapped, in_flat_map, pairs_from_splits, prefix_from}
use Rattle.gen_core.proofs.KeptLogs.{commander_log}
use Rattle.gen_local.proofs.Neighbouring.{near_of, near_sound, near_full}
use Rattle.gen_local.proofs.Steps.{AllPairs-across, before_of}

-- nothing arrives at the commander
pub nothing_arrives : (net : Network) (from v : ℕ) (path : List ℕ) → IsWellFormed net (record { from = from; to = 0; order = v; path = path }) → ⊥
nothing_arrives net from v path m =
    let b : path ≡ (0 ∷ []) ++ m.chain.from_commander.0 = m.chain.from_commander.1 in
    m.outside (subst (λ p. Contains p 0) (sym b) (Contains_here 0 m.chain.from_commander.0))

-- nobody is his own neighbour
pub no_loop : (net : Network) → IsNetwork net → (g : ℕ) → AreNeighbours net g g → ⊥
no_loop net ok g (inl h) = let r = (ok.edges.inside g g h).0 in omega arith
no_loop net ok g (inr h) = let r = (ok.edges.inside g g h).0 in omega arith

round_some : (net : Network) → IsNetwork net → 0 < rounds net
round_some net ok = omega (arith, ok.ranges.some_diameter)

-- ---- in a log that the commander keeps each entry may follow those before it
module _ (net : Network) (ok : IsNetwork net) (run : Run) (own : ℕ) (is_run : IsRun net run) (f : CommanderFollows net run own) (before : List LogEntry) (e : LogEntry) (rest : List LogEntry) (k : Keeps net run 0 (Commands own) (before ++ e ∷ rest)) where
  earlier : (x : LogEntry) → IsEntry net run 0 (Commands own) x → Precedes (place net x) (place net e) → Contains before x
  earlier x h r = before_of (λ a b. Precedes (place net a) (place net b)) (λ a b. Precedes-apart (place net a) (place net b)) before e rest x k.in_order ((k.entries x).1 h) r

  entry_before : (x : LogEntry) → Contains before x → IsEntry net run 0 (Commands own) x
  entry_before x h = (k.entries x).0 (Contains-append_left before (e ∷ rest) x h)

  itself : IsEntry net run 0 (Commands own) e
  itself = (k.entries e).0 (Contains-middle before e rest)

  learns_own : (v : ℕ) (path : List ℕ) → Learns 0 before v path → (v ≡ own) × (path ≡ [])
  learns_own v path (inl h) = let q : Some v ≡ Some own = (entry_before (Started 0 (Some v)) h.0).1 in (cc, h.1)
  learns_own v path (inr h) = absurd (nothing_arrives net h.0 v path (is_run.messages (record { from = h.0; to = 0; order = v; path = path }) (entry_before (Received h.0 v path) h.1)))

  learns : Precedes (0 ∷ []) (place net e) → Learns 0 before own []
  learns r = inl (earlier (Started 0 (Some own)) (refl, refl) r, refl)

  sound_ok : (x : LogEntry) → place net x ≡ place net e → IsEntry net run 0 (Commands own) x → IsSound net 0 before x
  sound_ok (Started general order) q h = (h.0, subst (IsOwn net 0) (sym h.1) (refl, f.order_known))
  sound_ok (Signed v path) q h =
      let e1 : v ≡ own = h.0 in
      let e2 : path ≡ 0 ∷ [] = h.1 in
      record {
        picked = [];
        learns = subst (λ w. Learns 0 before w []) (sym e1) (learns (subst (λ p. Precedes (0 ∷ []) p) q (inl (omega (arith, ap length e2)))));
        shortest = λ other o. omega arith;
        in_time = round_some net ok;
        longer = e2;
      }
  sound_ok (Sent to v path) q h =
      let t : Message = record { from = 0; to = to; order = v; path = path } in
      let s = (f.sends t refl).0 h in
      let r : Precedes (place net (Signed v path)) (place net e) = subst (λ p. Precedes (place net (Signed v path)) p) q (inr (refl, inl (omega arith))) in
      (earlier (Signed v path) (s.1, s.2) r, s.0, (is_run.messages t h).outside)
  sound_ok (Received from v path) q h = is_run.messages (record { from = from; to = 0; order = v; path = path }) h
  sound_ok (Decided orders order) q h =
      let e1 : orders ≡ own ∷ [] = h.0 in
      let e2 : order ≡ own = h.1 in
      let e3 : choose net (own ∷ []) ≡ own = choice_of-one net.choice own in
      let r : Precedes (0 ∷ []) (place net e) = subst (λ p. Precedes (0 ∷ []) p) q (inl (omega arith)) in (
        subst (λ l. IsListOf l (λ v. (path : List ℕ) × Learns 0 before v path)) (sym e1) (list_of_same (λ v. v ≡ own) (λ v. (path : List ℕ) × Learns 0 before v path) (λ v. ((λ s. ([], subst (λ w. Learns 0 before w []) (sym s) (learns r))), (λ s. (learns_own v s.0 s.1).0))) (own ∷ []) (list_of_one own)),
        e2 ∙ sym e3 ∙ ap (choose net) (sym e1),
      )

  pub commander_may : MayFollow net 0 before e
  commander_may = record {
    in_place = λ x h. AllPairs-across (λ a b. Precedes (place net a) (place net b)) before e rest x k.in_order h;
    sound = sound_ok e refl itself;
    started = λ r. (Some own, earlier (Started 0 (Some own)) (refl, refl) r);
    signed = λ v path s r.
        let h = learns_own v s.picked s.learns in
        let e1 : v ≡ own = h.0 in
        let e2 : s.picked ≡ [] = h.1 in
        let e3 : path ≡ s.picked ++ 0 ∷ [] = s.longer in
        let e4 : path ≡ 0 ∷ [] = e3 ∙ ap (λ p. p ++ 0 ∷ []) e2 in
        (path, earlier (Signed v path) (e1, e4) r);
    sent = λ to v path h near outside r.
        let i = entry_before (Signed v path) h in
        earlier (Sent to v path) ((f.sends (record { from = 0; to = to; order = v; path = path }) refl).1 (near, i.0, i.1)) r;
  }

-- ---- entries of the commander each of which may follow begin his log
is_started : (e : LogEntry) → ((own : ℕ) × (e ≡ Started 0 (Some own))) ⊎ ((own : ℕ) × (e ≡ Started 0 (Some own)) → ⊥)
is_started (Started general None) = inr (λ h. let q : Started general None ≡ Started 0 (Some h.0) = h.1 in cc)
is_started (Started general (Some own)) = elim (cases_eq general 0) [
  | inl e ↦ inl (own, cc)
  | inr ne ↦ inr (λ h. let q : Started general (Some own) ≡ Started 0 (Some h.0) = h.1 in ne (cc))
]
is_started (Signed order path) = inr (λ h. let q : Signed order path ≡ Started 0 (Some h.0) = h.1 in cc)
is_started (Sent to order path) = inr (λ h. let q : Sent to order path ≡ Started 0 (Some h.0) = h.1 in cc)
is_started (Received from order path) = inr (λ h. let q : Received from order path ≡ Started 0 (Some h.0) = h.1 in cc)
is_started (Decided orders order) = inr (λ h. let q : Decided orders order ≡ Started 0 (Some h.0) = h.1 in cc)

some_own : (net : Network) (general : ℕ) (own : Option ℕ) → IsOwn net 0 own → (v : ℕ) × (own ≡ Some v) × (v < net.orders)
some_own net general None h = absurd (h refl)
some_own net general (Some v) h = (v, refl, h.1)

module _ (net : Network) (ok : IsNetwork net) (es : List LogEntry) (go : GoesOn net 0 es) where
  abbrev Earlier : LogEntry → LogEntry → Type 0
  Earlier a b = Precedes (place net a) (place net b)

  apart : (a b : LogEntry) → Earlier a b → Earlier b a → ⊥
  apart a b = Precedes-apart (place net a) (place net b)

  in_order : AllPairs Earlier es
  in_order = pairs_from_splits Earlier es (λ before after e q x h. (go before after e q).in_place x h)

  record Stand (e : LogEntry) : Type 0 where
    front : List LogEntry
    after : List LogEntry
    is : es ≡ front ++ e ∷ after
    next : MayFollow net 0 front e

  stand : (e : LogEntry) → Contains es e → Stand e
  stand e h = let s = split es e h in record { front = s.0; after = s.1; is = s.2; next = go s.0 s.1 e s.2 }

  from_front : (e : LogEntry) (s : Stand e) (x : LogEntry) → Contains s.front x → Contains es x
  from_front e s x h = subst (λ l. Contains l x) (sym s.is) (Contains-append_left s.front (e ∷ s.after) x h)

  one_at : (a b : LogEntry) → Contains es a → Contains es b → place net a ≡ place net b → a ≡ b
  one_at a b h k q = elim (AllPairs-total Earlier es a b in_order h k) [
    | inl e ↦ e
    | inr (inl r) ↦ let s : Earlier a a = subst (λ p. Precedes (place net a) p) (sym q) r in absurd (apart a a s s)
    | inr (inr r) ↦ let s : Earlier b b = subst (λ p. Precedes (place net b) p) q r in absurd (apart b b s s)
  ]

  -- the order of his START, and RETREAT where there is none yet
  record OwnOrder : Type 0 where
    own : ℕ
    known : own < net.orders
    starts : (general : ℕ) (order : Option ℕ) → Contains es (Started general order) → (general ≡ 0) × (order ≡ Some own)

  own_order : OwnOrder
  own_order = elim (decide_some (λ e. (own : ℕ) × (e ≡ Started 0 (Some own))) is_started es) [
    | inl s ↦
        let h : Contains es (Started 0 (Some s.2.0)) = subst (λ e. Contains es e) s.2.1 s.1 in
        let m = (stand (Started 0 (Some s.2.0)) h).next.sound in
        record {
          own = s.2.0;
          known = m.1.1;
          starts = λ general order k. let q : Started general order ≡ Started 0 (Some s.2.0) = one_at (Started general order) (Started 0 (Some s.2.0)) k h refl in (cc, cc);
        }
    | inr none ↦ record {
      own = 0;
      known = omega (arith, ok.ranges.some_orders);
      starts = λ general order k.
          let m = (stand (Started general order) k).next.sound in
          let o = some_own net general order m.1 in
          let e1 : general ≡ 0 = m.0 in
          let e2 : order ≡ Some o.0 = o.1 in
          absurd (none (Started general order) k (o.0, cc));
    }
  ]

  abbrev own : ℕ
  own = own_order.own

  no_recv : (from v : ℕ) (path : List ℕ) → Contains es (Received from v path) → ⊥
  no_recv from v path h = nothing_arrives net from v path (stand (Received from v path) h).next.sound

  learnt_own : (e : LogEntry) (st : Stand e) (v : ℕ) (path : List ℕ) → Learns 0 st.front v path → (v ≡ own) × (path ≡ [])
  learnt_own e st v path (inl h) = let q : Some v ≡ Some own = (own_order.starts 0 (Some v) (from_front e st (Started 0 (Some v)) h.0)).1 in (cc, h.1)
  learnt_own e st v path (inr h) = absurd (no_recv h.0 v path (from_front e st (Received h.0 v path) h.1))

  learnt : (e : LogEntry) (st : Stand e) → Precedes (0 ∷ []) (place net e) → Learns 0 st.front own []
  learnt e st r =
      let s = st.next.started r in
      let q : s.0 ≡ Some own = (own_order.starts 0 s.0 (from_front e st (Started 0 s.0) s.1)).1 in
      inl (subst (λ o. Contains st.front (Started 0 o)) q s.1, refl)

  signed_own : (v : ℕ) (path : List ℕ) → Contains es (Signed v path) → (v ≡ own) × (path ≡ 0 ∷ [])
  signed_own v path h =
      let st = stand (Signed v path) h in
      let s = st.next.sound in
      let r = learnt_own (Signed v path) st v s.picked s.learns in
      let e3 : path ≡ s.picked ++ 0 ∷ [] = s.longer in
      (r.0, e3 ∙ ap (λ p. p ++ 0 ∷ []) r.1)

  message : ℕ → Message
  message h = record { from = 0; to = h; order = own; path = 0 ∷ [] }

  run : Run
  run = flat_map (λ h. message h ∷ []) (near_of net 0)

  in_run : (t : Message) → Contains run t → (t.from ≡ 0) × AreNeighbours net 0 t.to × (t.order ≡ own) × (t.path ≡ 0 ∷ [])
  unfolding run message
  in_run t h =
      let r = Contains_flat_mapped (λ h. message h ∷ []) (near_of net 0) t h in
      subst (λ (u : Message). (u.from ≡ 0) × AreNeighbours net 0 u.to × (u.order ≡ own) × (u.path ≡ 0 ∷ [])) (only (message r.0) t r.2) (refl, near_sound net 0 r.0 r.1, refl, refl)

  same_message : (t u : Message) → t.from ≡ u.from → t.to ≡ u.to → t.order ≡ u.order → t.path ≡ u.path → t ≡ u
  same_message t u a b c d = λ i. record { from = a i; to = b i; order = c i; path = d i }

  to_run : (t : Message) → t.from ≡ 0 → AreNeighbours net 0 t.to → t.order ≡ own → t.path ≡ 0 ∷ [] → Contains run t
  unfolding run message
  to_run t a near c d =
      subst (λ u. Contains (flat_map (λ h. message h ∷ []) (near_of net 0)) u) (same_message (message t.to) t (sym a) refl (sym c) (sym d))
      (in_flat_map (λ h. message h ∷ []) (near_of net 0) t.to (message t.to) (near_full net 0 t.to near) (Contains_here (message t.to) []))

  is_run : IsRun net run
  is_run = record {
    messages = λ t h.
        let m = in_run t h in
        let near : AreNeighbours net 0 t.to = m.1 in
        record {
          on_edge = rw m.0 near;
          chain = record {
            order_known = rw m.2 own_order.known;
            generals_known = rw m.3 (All-push (λ g. g < net.generals) [] 0 (All-nil (λ g. g < net.generals)) (omega (arith, ok.ranges.some_generals)));
            distinct = rw m.3 (λ i j d l k. absurd (omega arith));
            from_commander = ([], m.3);
          };
          in_time = let one : length t.path ≡ 1 = ap length m.3 in omega (arith, round_some net ok);
          signer = ([], m.3 ∙ ap (λ g. g ∷ []) (sym m.0));
          outside = λ h'. no_loop net ok 0 (subst (λ x. AreNeighbours net 0 x) (sym (only 0 t.to (subst (λ p. Contains p t.to) m.3 h'))) near);
        };
    once = λ l t u st su from to order'. same_message t u from to order' ((in_run t st.0).3 ∙ sym ((in_run u su.0).3));
  }

  follows : CommanderFollows net run own
  follows = record {
    order_known = own_order.known;
    sends = λ t e. ((λ h. let m = in_run t h in (m.1, m.2, m.3)), (λ m. to_run t e m.0 m.1 m.2));
  }

  its_log : (log : List LogEntry) × Keeps net run 0 (Commands own) log
  its_log = commander_log net run 0 own is_run

  entry_of : (e : LogEntry) → Contains es e → IsEntry net run 0 (Commands own) e
  entry_of (Started general order) h = own_order.starts general order h
  entry_of (Signed v path) h = signed_own v path h
  entry_of (Sent to v path) h =
      let st = stand (Sent to v path) h in
      let d = st.next.sound in
      let s = signed_own v path (from_front (Sent to v path) st (Signed v path) d.0) in
      to_run (record { from = 0; to = to; order = v; path = path }) refl d.1 s.0 s.1
  entry_of (Received from v path) h = absurd (no_recv from v path h)
  entry_of (Decided orders order) h =
      let e : LogEntry = Decided orders order in
      let st = stand e h in
      let d = st.next.sound in
      let known : IsListOf orders (λ v. v ≡ own) = list_of_same (λ v. (path : List ℕ) × Learns 0 st.front v path) (λ v. v ≡ own) (λ v. ((λ s. (learnt_own e st v s.0 s.1).0), (λ q. ([], subst (λ w. Learns 0 st.front w []) (sym q) (learnt e st (inl (omega arith))))))) orders d.0 in
      let e1 : orders ≡ own ∷ [] = one_list (λ v. v ≡ own) orders (own ∷ []) known (list_of_one own) in
      (e1, d.1 ∙ ap (choose net) e1 ∙ choice_of-one net.choice own)

  -- nothing is after DECIDE's place
  last_place : (e : LogEntry) → IsEntry net run 0 (Commands own) e → Precedes ((rounds net + 1) ∷ []) (place net e) → ⊥
  last_place (Started general order) h (inl r) = omega arith
  last_place (Started general order) h (inr r) = r.1
  last_place (Signed v path) h r =
      let len : length path ≡ 1 = ap length h.1 in
      let some = round_some net ok in
      elim r [ inl q ↦ omega (arith, some) | inr q ↦ omega (arith, some, q.0) ]
  last_place (Sent to v path) h r =
      let len : length path ≡ 1 = ap length (in_run (record { from = 0; to = to; order = v; path = path }) h).3 in
      let some = round_some net ok in
      elim r [ inl q ↦ omega (arith, some) | inr q ↦ omega (arith, some, q.0) ]
  last_place (Received from v path) h r =
      let len : length path ≡ 1 = ap length (in_run (record { from = from; to = 0; order = v; path = path }) h).3 in
      let some = round_some net ok in
      elim r [ inl q ↦ omega (arith, some) | inr q ↦ omega (arith, some, q.0) ]
  last_place (Decided orders order) h (inl r) = omega arith
  last_place (Decided orders order) h (inr r) = r.1

  -- his SIGN stands before all that has a later place
  signed_before : (e : LogEntry) (st : Stand e) → Precedes (1 ∷ 0 ∷ own ∷ []) (place net e) → Contains st.front (Signed own (0 ∷ []))
  signed_before e st r =
      let first : Precedes (0 ∷ []) (place net e) = Precedes-trans (0 ∷ []) (1 ∷ 0 ∷ own ∷ []) (place net e) (inl (omega arith)) r in
      let due : IsToSign net 0 st.front own (0 ∷ []) = record { picked = []; learns = learnt e st first; shortest = λ other o. omega arith; in_time = round_some net ok; longer = refl } in
      let s = st.next.signed own (0 ∷ []) due r in
      let q = (signed_own own s.0 (from_front e st (Signed own s.0) s.1)).1 in
      subst (λ p. Contains st.front (Signed own p)) q s.1

  down : (e x : LogEntry) → Contains es e → IsEntry net run 0 (Commands own) x → Precedes (place net x) (place net e) → Contains es x
  down e (Started general order) h i r =
      let st = stand e h in
      let s = st.next.started r in
      let k : Contains es (Started 0 s.0) = from_front e st (Started 0 s.0) s.1 in
      let e1 : general ≡ 0 = i.0 in
      let e2 : order ≡ Some own = i.1 in
      let e3 : s.0 ≡ Some own = (own_order.starts 0 s.0 k).1 in
      let q : Started 0 s.0 ≡ Started general order = cc in
      subst (λ y. Contains es y) q k
  down e (Signed v path) h i r =
      let st = stand e h in
      let e1 : v ≡ own = i.0 in
      let e2 : path ≡ 0 ∷ [] = i.1 in
      let q : Signed own (0 ∷ []) ≡ Signed v path = cc in
      let r' : Precedes (place net (Signed own (0 ∷ []))) (place net e) = subst (λ x. Precedes (place net x) (place net e)) (sym q) r in
      subst (λ y. Contains es y) q (from_front e st (Signed own (0 ∷ [])) (signed_before e st r'))
  down e (Sent to v path) h i r =
      let st = stand e h in
      let m = in_run (record { from = 0; to = to; order = v; path = path }) i in
      let e1 : v ≡ own = m.2 in
      let e2 : path ≡ 0 ∷ [] = m.3 in
      let q : Sent to own (0 ∷ []) ≡ Sent to v path = cc in
      let r' : Precedes (place net (Sent to own (0 ∷ []))) (place net e) = subst (λ x. Precedes (place net x) (place net e)) (sym q) r in
      let k = signed_before e st (Precedes-trans (1 ∷ 0 ∷ own ∷ []) (1 ∷ 1 ∷ to ∷ own ∷ []) (place net e) (inr (refl, inl (omega arith))) r') in
      let out : Contains (0 ∷ []) to → ⊥ = λ c. no_loop net ok 0 (subst (λ x. AreNeighbours net 0 x) (sym (only 0 to c)) m.1) in
      subst (λ y. Contains es y) q (from_front e st (Sent to own (0 ∷ [])) (st.next.sent to own (0 ∷ []) k m.1 out r'))
  down e (Received from v path) h i r = absurd (nothing_arrives net from v path (is_run.messages (record { from = from; to = 0; order = v; path = path }) i))
  down e (Decided orders order) h i r = absurd (last_place e (entry_of e h) r)

  pub commander_begins : Begins net 0 es
  commander_begins =
      let log = its_log.0 in
      let keeps = its_log.1 in
      let p = prefix_from Earlier apart es log in_order keeps.in_order (λ e h. (keeps.entries e).1 (entry_of e h)) (λ e x h k r. down e x h ((keeps.entries x).0 k) r) in
      (p.0, record { run = run; conduct = Commands own; run_of_net = is_run; follows = (refl, follows); keeps = subst (λ l. Keeps net run 0 (Commands own) l) p.1 keeps })

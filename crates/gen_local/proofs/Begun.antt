-- Entries that go on step by step begin a log: the one of the run with their RECVs and the SENDs that these ask for.
use Rattle.std.proofs.Common.{◌≡◌, ◌≢◌, ℕ, ◌+◌, ◌<◌, ◌≤◌, ◌⊎◌, ◌↔◌, inl, inr, List, [], ◌∷◌, ◌++◌, length, Contains, AllPairs, None, refl, sym, ap, ◌∙◌, subst, arith, length-append}
use Rattle.std.specs.List.{flat_map}
use Rattle.std.proofs.lemmas.List.Elements.{Contains-append_left, Contains-append_right, Contains-append_cases, Contains-get_or, All-push}
use Rattle.std.proofs.lemmas.List.Quantifiers.{all_pairs_push}
use Rattle.std.proofs.lemmas.Bool.{cases_eq, cases_lt}
use Rattle.gen_types.specs.Ascending.{IsListOf}
use Rattle.gen_types.proofs.Lists.{split, decide_some, decide_contains, Contains_here, Contains_nil, Contains-middle}
use Rattle.gen_net.specs.declared.message.Message.{Message}
use Rattle.gen_net.specs.Network.{Network, rounds, AreNeighbours}
use Rattle.gen_net.specs.Run.{Run, IsSent, IsWellFormed, IsRun, Adds, Accepts}
use Rattle.gen_net.specs.Follows.{Relays, LieutenantFollows}
use Rattle.gen_net.specs.Log.{LogEntry, Started, Signed, Sent, Received, Decided, IsEntry, Keeps, Precedes, place}
use Rattle.gen_net.specs.Departs.{Begins}
use Rattle.gen_core.proofs.Rounds.{added_by}
use Rattle.gen_core.proofs.Decisions.{arrived_accepted, list_below}
use Rattle.gen_local.proofs.Next.{HasRecv, NewIn, IsNext, GoesOnNext}
use Rattle.gen_core.proofs.OrderedLists.{AllPairs-total, Precedes-apart, list_of_same, Contains_flat_mapped, in_flat_map, only, Precedes-trans, Precedes-total, pairs_from_splits, prefix_from}
use Rattle.gen_core.proofs.KeptLogs.{Signs, decide_signs, lieutenant_log}
use Rattle.gen_local.proofs.Neighbouring.{near_of, near_sound, near_full}
use Rattle.gen_local.proofs.Steps.{before_of}

adds_between : (run other : Run) (g : ℕ) → ((t : Message) → t.to ≡ g → Contains run t ↔ Contains other t) → (l v : ℕ) → Adds run g l v → Adds other g l v
adds_between run other g same l v a = record {
  arrives = let c = a.arrives in (c.0, (((same c.0 c.1.1).0 c.1.0.0, c.1.0.1), c.1.1), c.2);
  new = λ k less c. a.new k less (c.0, (((same c.0 c.1.1).1 c.1.0.0, c.1.0.1), c.1.1), c.2);
}

heard : ℕ → LogEntry → Run
heard g (Started general own) = []
heard g (Signed order path) = []
heard g (Sent to order path) = []
heard g (Received from order path) = record { from = from; to = g; order = order; path = path } ∷ []
heard g (Decided orders order) = []

-- whether the entry is a SIGN of this order
is_sign : (v : ℕ) (e : LogEntry) → ((path : List ℕ) × (e ≡ Signed v path)) ⊎ ((path : List ℕ) × (e ≡ Signed v path) → ⊥)
is_sign v (Started general own) = inr (λ h. let q : Started general own ≡ Signed v h.0 = h.1 in cc)
is_sign v (Signed order path) = elim (cases_eq order v) [
  | inl e ↦ inl (path, cc)
  | inr ne ↦ inr (λ h. let q : Signed order path ≡ Signed v h.0 = h.1 in ne (cc))
]
is_sign v (Sent to order path) = inr (λ h. let q : Sent to order path ≡ Signed v h.0 = h.1 in cc)
is_sign v (Received from order path) = inr (λ h. let q : Received from order path ≡ Signed v h.0 = h.1 in cc)
is_sign v (Decided orders order) = inr (λ h. let q : Decided orders order ≡ Signed v h.0 = h.1 in cc)

module _ (net : Network) (g : ℕ) (g_known : g < net.generals) (es : List LogEntry) (go : GoesOnNext net g es) where
  abbrev Earlier : LogEntry → LogEntry → Type 0
  Earlier a b = Precedes (place net a) (place net b)

  apart : (a b : LogEntry) → Earlier a b → Earlier b a → ⊥
  apart a b = Precedes-apart (place net a) (place net b)

  in_order : AllPairs Earlier es
  in_order = pairs_from_splits Earlier es (λ before after e q x h. (go before after e q).in_place x h)

  -- what stands before a member, which comes next after it
  record Stand (e : LogEntry) : Type 0 where
    front : List LogEntry
    after : List LogEntry
    is : es ≡ front ++ e ∷ after
    next : IsNext net g front e

  stand : (e : LogEntry) → Contains es e → Stand e
  stand e h = let s = split es e h in record { front = s.0; after = s.1; is = s.2; next = go s.0 s.1 e s.2 }

  from_front : (e : LogEntry) (s : Stand e) (x : LogEntry) → Contains s.front x → Contains es x
  from_front e s x h = subst (λ l. Contains l x) (sym s.is) (Contains-append_left s.front (e ∷ s.after) x h)

  to_front : (e : LogEntry) (s : Stand e) (x : LogEntry) → Contains es x → Earlier x e → Contains s.front x
  to_front e s x h r = before_of Earlier apart s.front e s.after x (subst (AllPairs Earlier) s.is in_order) (subst (λ l. Contains l x) s.is h) r

  one_at : (a b : LogEntry) → Contains es a → Contains es b → place net a ≡ place net b → a ≡ b
  one_at a b h k q = elim (AllPairs-total Earlier es a b in_order h k) [
    | inl e ↦ e
    | inr (inl r) ↦ let s : Earlier a a = subst (λ p. Precedes (place net a) p) (sym q) r in absurd (apart a a s s)
    | inr (inr r) ↦ let s : Earlier b b = subst (λ p. Precedes (place net b) p) q r in absurd (apart b b s s)
  ]

  -- RECVs
  message_of : (from v : ℕ) (path : List ℕ) → Contains es (Received from v path) → IsWellFormed net (record { from = from; to = g; order = v; path = path })
  message_of from v path h = (stand (Received from v path) h).next.sound

  not_from_me : (from v : ℕ) (path : List ℕ) → Contains es (Received from v path) → from ≢ g
  not_from_me from v path h e =
      let m = message_of from v path h in
      m.outside (subst (λ p. Contains p g) (sym m.signer.1) (subst (λ x. Contains (m.signer.0 ++ from ∷ []) x) e (Contains-middle m.signer.0 from [])))

  run0 : Run
  run0 = flat_map (heard g) es

  from_heard : (e : LogEntry) (t : Message) → Contains es e → Contains (heard g e) t → (t.to ≡ g) × Contains es (Received t.from t.order t.path)
  unfolding heard
  from_heard (Started general own) t h k = absurd (Contains_nil t k)
  from_heard (Signed order path) t h k = absurd (Contains_nil t k)
  from_heard (Sent to order path) t h k = absurd (Contains_nil t k)
  from_heard (Received from order path) t h k = subst (λ u. (u.to ≡ g) × Contains es (Received u.from u.order u.path)) (only (record { from = from; to = g; order = order; path = path }) t k) (refl, h)
  from_heard (Decided orders order) t h k = absurd (Contains_nil t k)

  from_run0 : (t : Message) → Contains run0 t → (t.to ≡ g) × Contains es (Received t.from t.order t.path)
  unfolding run0
  from_run0 t h = let r = Contains_flat_mapped (heard g) es t h in from_heard r.0 t r.1 r.2

  to_run0 : (from v : ℕ) (path : List ℕ) → Contains es (Received from v path) → Contains run0 (record { from = from; to = g; order = v; path = path })
  unfolding run0 heard
  to_run0 from v path h = in_flat_map (heard g) es (Received from v path) (record { from = from; to = g; order = v; path = path }) h (Contains_here (record { from = from; to = g; order = v; path = path }) [])

  adds_of_new : (l v : ℕ) → NewIn es l v → Adds run0 g l v
  adds_of_new l v n = record {
    arrives = (record { from = n.received.0; to = g; order = v; path = n.path }, ((to_run0 n.received.0 v n.path n.received.1, n.round), refl), refl);
    new = λ k less c.
        let t = c.0 in
        let len : length t.path ≡ k = c.1.0.1 in
        let low : l ≤ length t.path = n.first t.path (t.from, subst (λ w. Contains es (Received t.from w t.path)) c.2 (from_run0 t c.1.0.0).1) in
        omega arith;
  }

  new_of_adds : (l v : ℕ) → Adds run0 g l v → NewIn es l v
  new_of_adds l v a =
      let c = a.arrives in
      let t = c.0 in
      record {
        path = t.path;
        received = (t.from, subst (λ w. Contains es (Received t.from w t.path)) c.2 (from_run0 t c.1.0.0).1);
        round = c.1.0.1;
        first = λ other o. elim (cases_lt (length other) l) [
          | inl less ↦ absurd (a.new (length other) less (record { from = o.0; to = g; order = v; path = other }, ((to_run0 o.0 v other o.1, refl), refl), refl))
          | inr more ↦ more
        ];
      }

  one_round : (l l' v : ℕ) → NewIn es l v → NewIn es l' v → l ≡ l'
  one_round l l' v n n' =
      let a : l ≤ length n'.path = n.first n'.path n'.received in
      let b : l' ≤ length n.path = n'.first n.path n.received in
      omega (arith, n.round, n'.round)

  -- SIGNs
  record SignedAs (v : ℕ) (path : List ℕ) : Type 0 where
    round : ℕ
    below : round < rounds net
    new : NewIn es round v
    picked : List ℕ
    received : HasRecv es v picked
    came : length picked ≡ round
    longer : path ≡ picked ++ g ∷ []
    len : length path ≡ round + 1

  signed_as : (v : ℕ) (path : List ℕ) → Contains es (Signed v path) → SignedAs v path
  signed_as v path h =
      let s = stand (Signed v path) h in
      let d = s.next.sound in
      let n : NewIn s.front d.0 v = d.2 in
      let e1 : length d.3.0 ≡ d.0 = d.3.2 in
      let e2 : path ≡ d.3.0 ++ g ∷ [] = d.3.3 in
      let len : length path ≡ d.0 + 1 = omega (arith, ap length e2, length-append d.3.0 (g ∷ [])) in
      record {
        round = d.0;
        below = d.1;
        new = record {
          path = n.path;
          received = (n.received.0, from_front (Signed v path) s (Received n.received.0 v n.path) n.received.1);
          round = n.round;
          first = λ other o. elim (Precedes-total (place net (Received o.0 v other)) (place net (Signed v path))) [
            | inl q ↦ cc
            | inr (inl r) ↦ n.first other (o.0, to_front (Signed v path) s (Received o.0 v other) o.1 r)
            | inr (inr (inl r)) ↦ omega arith
            | inr (inr (inr r)) ↦ omega (arith, r.0)
          ];
        };
        picked = d.3.0;
        received = (d.3.1.0, from_front (Signed v path) s (Received d.3.1.0 v d.3.0) d.3.1.1);
        came = e1;
        longer = e2;
        len = len;
      }

  one_sign : (v : ℕ) (path other : List ℕ) → Contains es (Signed v path) → Contains es (Signed v other) → path ≡ other
  one_sign v path other h k =
      let s = signed_as v path h in
      let r = signed_as v other k in
      let e : s.round ≡ r.round = one_round s.round r.round v s.new r.new in
      let len : length path ≡ length other = omega (arith, s.len, r.len) in
      let q : Signed v path ≡ Signed v other = one_at (Signed v path) (Signed v other) h k (ap (λ n. n ∷ 0 ∷ v ∷ []) len) in
      cc

  -- the pick: what the SIGN of the order names, else any chain that came in the order's round
  record Picked (v : ℕ) : Type 0 where
    path : List ℕ
    as_signed : (longer : List ℕ) → Contains es (Signed v longer) → longer ≡ path ++ g ∷ []
    as_came : (l : ℕ) → NewIn es l v → HasRecv es v path × (length path ≡ l)

  picked : (v : ℕ) → Picked v
  picked v = elim (decide_some (λ e. (path : List ℕ) × (e ≡ Signed v path)) (is_sign v) es) [
    | inl f ↦
        let path = f.2.0 in
        let h : Contains es (Signed v path) = subst (λ e. Contains es e) f.2.1 f.1 in
        let s = signed_as v path h in
        record {
          path = s.picked;
          as_signed = λ longer k. one_sign v longer path k h ∙ s.longer;
          as_came = λ l n. (s.received, s.came ∙ one_round s.round l v s.new n);
        }
    | inr none ↦
        let no_sign : (longer : List ℕ) → Contains es (Signed v longer) → ⊥ = λ longer k. none (Signed v longer) k (longer, refl) in
        elim (decide_some (λ t. t.order ≡ v) (λ t. cases_eq t.order v) run0) [
          | inl f ↦
              let t = f.0 in
              let a = added_by run0 g (length t.path) v (t, ((f.1, refl), (from_run0 t f.1).0), f.2) in
              let n = new_of_adds a.0 v a.2 in
              record {
                path = n.path;
                as_signed = λ longer k. absurd (no_sign longer k);
                as_came = λ l m. (n.received, n.round ∙ one_round a.0 l v n m);
              }
          | inr never ↦ record {
            path = [];
            as_signed = λ longer k. absurd (no_sign longer k);
            as_came = λ l n. absurd (never (record { from = n.received.0; to = g; order = v; path = n.path }) (to_run0 n.received.0 v n.path n.received.1) refl);
          }
        ]
  ]

  abbrev pick : ℕ → List ℕ
  pick v = (picked v).path

  -- the SENDs that the RECVs ask for
  record IsPost (t : Message) : Type 0 where
    mine : t.from ≡ g
    round : ℕ
    below : round < rounds net
    added : Adds run0 g round t.order
    path : t.path ≡ pick t.order ++ g ∷ []
    near : AreNeighbours net g t.to
    outside : Contains t.path t.to → ⊥

  post_if : (v h : ℕ) → Contains (pick v ++ g ∷ []) h ⊎ (Contains (pick v ++ g ∷ []) h → ⊥) → Run
  post_if v h (inl inside) = []
  post_if v h (inr out) = record { from = g; to = h; order = v; path = pick v ++ g ∷ [] } ∷ []

  posts_of : ℕ → Run
  posts_of v = flat_map (λ h. post_if v h (decide_contains (pick v ++ g ∷ []) h)) (near_of net g)

  relaying : (vs : List ℕ) × IsListOf vs (λ v. (v < net.orders) × Signs net run0 g v)
  relaying = list_below (Signs net run0 g) (decide_signs net run0 g) net.orders

  posts : Run
  posts = flat_map posts_of relaying.0

  post_if_sound : (v h : ℕ) (d : Contains (pick v ++ g ∷ []) h ⊎ (Contains (pick v ++ g ∷ []) h → ⊥)) (t : Message) → Signs net run0 g v → AreNeighbours net g h → Contains (post_if v h d) t → IsPost t
  unfolding post_if
  post_if_sound v h (inl inside) t s near k = absurd (Contains_nil t k)
  post_if_sound v h (inr out) t s near k = subst IsPost (only (record { from = g; to = h; order = v; path = pick v ++ g ∷ [] }) t k) (record { mine = refl; round = s.0; below = s.1; added = s.2; path = refl; near = near; outside = out })

  posts_sound : (t : Message) → Contains posts t → IsPost t
  unfolding posts posts_of
  posts_sound t h =
      let r = Contains_flat_mapped posts_of relaying.0 t h in
      let v = r.0 in
      let q = Contains_flat_mapped (λ x. post_if v x (decide_contains (pick v ++ g ∷ []) x)) (near_of net g) t r.2 in
      post_if_sound v q.0 (decide_contains (pick v ++ g ∷ []) q.0) t ((relaying.1.members v).0 r.1).1 (near_sound net g q.0 q.1) q.2

  post_if_full : (v h : ℕ) (d : Contains (pick v ++ g ∷ []) h ⊎ (Contains (pick v ++ g ∷ []) h → ⊥)) → (Contains (pick v ++ g ∷ []) h → ⊥) → Contains (post_if v h d) (record { from = g; to = h; order = v; path = pick v ++ g ∷ [] })
  unfolding post_if
  post_if_full v h (inl inside) out = absurd (out inside)
  post_if_full v h (inr o) out = Contains_here (record { from = g; to = h; order = v; path = pick v ++ g ∷ [] }) []

  posts_full : (v h l : ℕ) → l < rounds net → Adds run0 g l v → AreNeighbours net g h → (Contains (pick v ++ g ∷ []) h → ⊥) → Contains posts (record { from = g; to = h; order = v; path = pick v ++ g ∷ [] })
  unfolding posts posts_of
  posts_full v h l below a near out =
      let t : Message = record { from = g; to = h; order = v; path = pick v ++ g ∷ [] } in
      let n = new_of_adds l v a in
      let known : v < net.orders = (message_of n.received.0 v n.path n.received.1).chain.order_known in
      in_flat_map posts_of relaying.0 v t ((relaying.1.members v).1 (known, (l, below, a)))
      (in_flat_map (λ x. post_if v x (decide_contains (pick v ++ g ∷ []) x)) (near_of net g) h t (near_full net g h near) (post_if_full v h (decide_contains (pick v ++ g ∷ []) h) out))

  post_of : (t : Message) → IsPost t → Contains posts t
  post_of t p =
      let h = posts_full t.order t.to p.round p.below p.added p.near (subst (λ q. Contains q t.to → ⊥) p.path p.outside) in
      subst (λ q. Contains posts (record { from = t.from; to = t.to; order = t.order; path = q })) (sym p.path) (subst (λ x. Contains posts (record { from = x; to = t.to; order = t.order; path = pick t.order ++ g ∷ [] })) (sym p.mine) h)

  -- the run
  run : Run
  run = run0 ++ posts

  in_run : (t : Message) → Contains run t → ((t.to ≡ g) × Contains es (Received t.from t.order t.path)) ⊎ IsPost t
  unfolding run
  in_run t h = elim (Contains-append_cases run0 posts t h) [ inl k ↦ inl (from_run0 t k) | inr k ↦ inr (posts_sound t k) ]

  run_of_run0 : (t : Message) → Contains run0 t → Contains run t
  unfolding run
  run_of_run0 t h = Contains-append_left run0 posts t h

  run_of_post : (t : Message) → IsPost t → Contains run t
  unfolding run
  run_of_post t p = Contains-append_right run0 posts t (post_of t p)

  not_to_me : (t : Message) → IsPost t → t.to ≢ g
  not_to_me t p e = p.outside (subst (λ q. Contains q t.to) (sym p.path) (subst (λ x. Contains (pick t.order ++ g ∷ []) x) (sym e) (Contains-middle (pick t.order) g [])))

  same_came : (t : Message) → t.to ≡ g → Contains run0 t ↔ Contains run t
  same_came t e = (
    (λ h. run_of_run0 t h),
    (λ h. elim (in_run t h) [
      | inl r ↦ subst (λ x. Contains run0 (record { from = t.from; to = x; order = t.order; path = t.path })) (sym e) (to_run0 t.from t.order t.path r.1)
      | inr p ↦ absurd (not_to_me t p e)
    ]),
  )

  adds_run : (l v : ℕ) → Adds run0 g l v → Adds run g l v
  adds_run l v a = adds_between run0 run g same_came l v a

  adds_run0 : (l v : ℕ) → Adds run g l v → Adds run0 g l v
  adds_run0 l v a = adds_between run run0 g (λ t e. let s = same_came t e in (s.1, s.0)) l v a

  post_length : (t : Message) (p : IsPost t) → length t.path ≡ p.round + 1
  post_length t p =
      let c = (picked t.order).as_came p.round (new_of_adds p.round t.order p.added) in
      let len : length (pick t.order) ≡ p.round = c.1 in
      omega (arith, ap length p.path, length-append (pick t.order) (g ∷ []))

  lengthened : (q : List ℕ) (from v h : ℕ) → IsWellFormed net (record { from = from; to = g; order = v; path = q }) → length q < rounds net → AreNeighbours net g h → (Contains (q ++ g ∷ []) h → ⊥) → IsWellFormed net (record { from = g; to = h; order = v; path = q ++ g ∷ [] })
  lengthened q from v h m short near out =
      let b : q ≡ (0 ∷ []) ++ m.chain.from_commander.0 = m.chain.from_commander.1 in
      record {
        on_edge = near;
        chain = record {
          order_known = m.chain.order_known;
          generals_known = All-push (λ x. x < net.generals) q g m.chain.generals_known g_known;
          distinct = all_pairs_push (λ x y. x ≢ y) q g m.chain.distinct (λ k d l e. m.outside (subst (λ x. Contains q x) e (Contains-get_or q k d l)));
          from_commander = (m.chain.from_commander.0 ++ g ∷ [], ap (λ p. p ++ g ∷ []) b);
        };
        in_time = omega (arith, length-append q (g ∷ []));
        signer = (q, refl);
        outside = out;
      }

  is_message : (t : Message) → Contains run t → IsWellFormed net t
  is_message t h = elim (in_run t h) [
    | inl r ↦ subst (λ x. IsWellFormed net (record { from = t.from; to = x; order = t.order; path = t.path })) (sym r.0) (message_of t.from t.order t.path r.1)
    | inr p ↦
        let c = (picked t.order).as_came p.round (new_of_adds p.round t.order p.added) in
        let len : length (pick t.order) ≡ p.round = c.1 in
        let below : p.round < rounds net = p.below in
        let m = lengthened (pick t.order) c.0.0 t.order t.to (message_of c.0.0 t.order (pick t.order) c.0.1) (omega arith) p.near (subst (λ q. Contains q t.to → ⊥) p.path p.outside) in
        subst (λ q. IsWellFormed net (record { from = t.from; to = t.to; order = t.order; path = q })) (sym p.path) (subst (λ x. IsWellFormed net (record { from = x; to = t.to; order = t.order; path = pick t.order ++ g ∷ [] })) (sym p.mine) m)
  ]

  same_triple : (t u : Message) → t.from ≡ u.from → t.to ≡ u.to → t.order ≡ u.order → t.path ≡ u.path → t ≡ u
  same_triple t u a b c d = λ i. record { from = a i; to = b i; order = c i; path = d i }

  once : (l : ℕ) (t u : Message) → IsSent run l t → IsSent run l u → t.from ≡ u.from → t.to ≡ u.to → t.order ≡ u.order → t ≡ u
  once l t u ht hu same_from same_to same_order = elim (in_run t ht.0) [
    | inl r ↦ elim (in_run u hu.0) [
      | inl s ↦
          let len : length t.path ≡ length u.path = ht.1 ∙ sym hu.1 in
          let q : Received t.from t.order t.path ≡ Received u.from u.order u.path = one_at (Received t.from t.order t.path) (Received u.from u.order u.path) r.1 s.1 (cc) in
          same_triple t u same_from same_to same_order (cc)
      | inr p ↦ absurd (not_from_me t.from t.order t.path r.1 (same_from ∙ p.mine))
    ]
    | inr p ↦ elim (in_run u hu.0) [
      | inl s ↦ absurd (not_from_me u.from u.order u.path s.1 (sym same_from ∙ p.mine))
      | inr p' ↦ let e1 : t.path ≡ pick t.order ++ g ∷ [] = p.path in let e2 : u.path ≡ pick u.order ++ g ∷ [] = p'.path in same_triple t u same_from same_to same_order (cc)
    ]
  ]

  is_run : IsRun net run
  is_run = record { messages = is_message; once = once }

  follows : LieutenantFollows net run g pick
  follows = record {
    picks = λ l v a.
        let n = new_of_adds l v (adds_run0 l v a) in
        let c = (picked v).as_came l n in
        (record { from = c.0.0; to = g; order = v; path = pick v }, ((run_of_run0 (record { from = c.0.0; to = g; order = v; path = pick v }) (to_run0 c.0.0 v (pick v) c.0.1), c.1), refl), refl, refl);
    silent = λ t h e. elim (in_run t h.0) [
      | inl r ↦ not_from_me t.from t.order t.path r.1 e
      | inr p ↦
          let c = (picked t.order).as_came p.round (new_of_adds p.round t.order p.added) in
          let m = message_of c.0.0 t.order (pick t.order) c.0.1 in
          let len : length (pick t.order) ≡ p.round = c.1 in
          let one : length t.path ≡ 1 = h.1 in
          omega (arith, post_length t p, ap length m.signer.1, length-append m.signer.0 (c.0.0 ∷ []))
    ];
    sends = λ l t pos below e. (
      (λ h. elim (in_run t h.0) [
        | inl r ↦ absurd (not_from_me t.from t.order t.path r.1 e)
        | inr p ↦
            let len : length t.path ≡ l + 1 = h.1 in
            let same : p.round ≡ l = omega (arith, post_length t p) in
            record { added = adds_run l t.order (subst (λ x. Adds run0 g x t.order) same p.added); longer = p.path; neighbour = p.near; outside = p.outside }
      ]),
      (λ x.
          let a = adds_run0 l t.order x.added in
          let p : IsPost t = record { mine = e; round = l; below = below; added = a; path = x.longer; near = x.neighbour; outside = x.outside } in
          (run_of_post t p, post_length t p)),
    );
  }

  -- the log that he keeps in this run
  its_log : (log : List LogEntry) × Keeps net run g (Relays pick) log
  its_log = lieutenant_log net run g pick is_run

  log : List LogEntry
  log = its_log.0

  keeps : Keeps net run g (Relays pick) log
  unfolding log
  keeps = its_log.1

  received_accepted : (v : ℕ) → ((path : List ℕ) × HasRecv es v path) ↔ Accepts net run g v
  received_accepted v = (
    (λ r. arrived_accepted net run is_run g v (record { from = r.1.0; to = g; order = v; path = r.0 }) (run_of_run0 (record { from = r.1.0; to = g; order = v; path = r.0 }) (to_run0 r.1.0 v r.0 r.1.1)) refl refl),
    (λ a. let n = new_of_adds a.0 v (adds_run0 a.0 v a.2) in (n.path, n.received)),
  )

  entry_of : (e : LogEntry) → Contains es e → IsEntry net run g (Relays pick) e
  entry_of (Started general own) h = (stand (Started general own) h).next.sound
  entry_of (Signed v path) h =
      let s = signed_as v path h in
      (s.round, s.below, adds_run s.round v (adds_of_new s.round v s.new), (picked v).as_signed path h)
  entry_of (Sent to v path) h =
      let st = stand (Sent to v path) h in
      let d = st.next.sound in
      let k : Contains es (Signed v path) = from_front (Sent to v path) st (Signed v path) d.0 in
      let s = signed_as v path k in
      run_of_post (record { from = g; to = to; order = v; path = path }) (record { mine = refl; round = s.round; below = s.below; added = adds_of_new s.round v s.new; path = (picked v).as_signed path k; near = d.1; outside = d.2 })
  entry_of (Received from v path) h = run_of_run0 (record { from = from; to = g; order = v; path = path }) (to_run0 from v path h)
  entry_of (Decided orders order) h =
      let st = stand (Decided orders order) h in
      let d = st.next.sound in (
        list_of_same (λ v. (path : List ℕ) × HasRecv st.front v path) (Accepts net run g) (λ v. (
          (λ r. (received_accepted v).0 (r.0, (r.1.0, from_front (Decided orders order) st (Received r.1.0 v r.0) r.1.1))),
          (λ a.
              let r = (received_accepted v).1 a in
              let m = message_of r.1.0 v r.0 r.1.1 in
              let in_time : length r.0 ≤ rounds net = m.in_time in
              (r.0, (r.1.0, to_front (Decided orders order) st (Received r.1.0 v r.0) r.1.1 (inl (omega arith))))),
        )) orders d.0,
        d.1,
      )

  -- what he signs before e's place is signed before e
  signed_before : (e : LogEntry) (st : Stand e) (l v : ℕ) → l < rounds net → Adds run0 g l v → Precedes ((l + 1) ∷ 0 ∷ v ∷ []) (place net e) → Contains st.front (Signed v (pick v ++ g ∷ []))
  signed_before e st l v below a r =
      let n = new_of_adds l v a in
      let len : length n.path ≡ l = n.round in
      let x : LogEntry = Received n.received.0 v n.path in
      let early : Contains st.front x = to_front e st x n.received.1 (Precedes-trans (place net x) ((l + 1) ∷ 0 ∷ v ∷ []) (place net e) (inl (omega arith)) r) in
      let m : NewIn st.front l v = record { path = n.path; received = (n.received.0, early); round = len; first = λ other o. n.first other (o.0, from_front e st (Received o.0 v other) o.1) } in
      let s = st.next.signed l v m below r in
      let q : s.0 ≡ pick v ++ g ∷ [] = (picked v).as_signed s.0 (from_front e st (Signed v s.0) s.1) in
      subst (λ p. Contains st.front (Signed v p)) q s.1

  pick_length : (l v : ℕ) → Adds run0 g l v → length (pick v ++ g ∷ []) ≡ l + 1
  pick_length l v a = let c = ((picked v).as_came l (new_of_adds l v a)).1 in omega (arith, length-append (pick v) (g ∷ []))

  -- nothing is after DECIDE's place
  last_place : (e : LogEntry) → Contains es e → Precedes ((rounds net + 1) ∷ []) (place net e) → ⊥
  last_place (Started general own) h (inl r) = omega arith
  last_place (Started general own) h (inr r) = r.1
  last_place (Signed v path) h r =
      let s = signed_as v path h in
      let b : s.round < rounds net = s.below in
      elim r [ inl q ↦ omega (arith, s.len) | inr q ↦ omega (arith, s.len, q.0) ]
  last_place (Sent to v path) h r =
      let st = stand (Sent to v path) h in
      let s = signed_as v path (from_front (Sent to v path) st (Signed v path) st.next.sound.0) in
      let b : s.round < rounds net = s.below in
      elim r [ inl q ↦ omega (arith, s.len) | inr q ↦ omega (arith, s.len, q.0) ]
  last_place (Received from v path) h r =
      let m = message_of from v path h in
      let in_time : length path ≤ rounds net = m.in_time in
      elim r [ inl q ↦ omega arith | inr q ↦ omega (arith, q.0) ]
  last_place (Decided orders order) h (inl r) = omega arith
  last_place (Decided orders order) h (inr r) = r.1

  down : (e x : LogEntry) → Contains es e → IsEntry net run g (Relays pick) x → Precedes (place net x) (place net e) → Contains es x
  down e (Started general own) h i r =
      let st = stand e h in
      let k : Contains es (Started g None) = from_front e st (Started g None) (st.next.started r) in
      let e1 : general ≡ g = i.0 in
      let e2 : own ≡ None = i.1 in
      let q : Started g None ≡ Started general own = cc in
      subst (λ y. Contains es y) q k
  down e (Signed v path) h i r =
      let st = stand e h in
      let a = adds_run0 i.0 v i.2 in
      let q : path ≡ pick v ++ g ∷ [] = i.3 in
      let len : length path ≡ i.0 + 1 = ap length q ∙ pick_length i.0 v a in
      let k = signed_before e st i.0 v i.1 a (subst (λ n. Precedes (n ∷ 0 ∷ v ∷ []) (place net e)) len r) in
      subst (λ p. Contains es (Signed v p)) (sym q) (from_front e st (Signed v (pick v ++ g ∷ [])) k)
  down e (Sent to v path) h i r =
      let st = stand e h in
      let t : Message = record { from = g; to = to; order = v; path = path } in
      elim (in_run t i) [
        | inl m ↦ absurd (not_from_me g v path m.1 refl)
        | inr p ↦
            let len : length path ≡ p.round + 1 = post_length t p in
            let before_it : Precedes ((p.round + 1) ∷ 0 ∷ v ∷ []) (place net (Sent to v path)) = inr (sym len, inl (omega arith)) in
            let k = signed_before e st p.round v p.below p.added (Precedes-trans ((p.round + 1) ∷ 0 ∷ v ∷ []) (place net (Sent to v path)) (place net e) before_it r) in
            let k' : Contains st.front (Signed v path) = subst (λ q. Contains st.front (Signed v q)) (sym p.path) k in
            from_front e st (Sent to v path) (st.next.sent to v path k' p.near p.outside r)
      ]
  down e (Received from v path) h i r = elim (in_run (record { from = from; to = g; order = v; path = path }) i) [
    | inl m ↦ m.1
    | inr p ↦ absurd (not_to_me (record { from = from; to = g; order = v; path = path }) p refl)
  ]
  down e (Decided orders order) h i r = absurd (last_place e h r)

  begins : g ≢ 0 → Begins net g es
  begins ng =
      let p = prefix_from Earlier apart es log in_order keeps.in_order (λ e h. (keeps.entries e).1 (entry_of e h)) (λ e x h k r. down e x h ((keeps.entries x).0 k) r) in
      (p.0, record { run = run; conduct = Relays pick; run_of_net = is_run; follows = (ng, follows); keeps = subst (λ l. Keeps net run g (Relays pick) l) p.1 keeps })

pub begins_by_next : (net : Network) (g : ℕ) → g < net.generals → g ≢ 0 → (entries : List LogEntry) → GoesOnNext net g entries → Begins net g entries
begins_by_next net g g_known ng entries go = begins net g g_known entries go ng

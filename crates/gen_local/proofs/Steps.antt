-- In a log that a lieutenant keeps each entry comes next after those before it.
use Rattle.std.proofs.Common.{◌≡◌, ◌≢◌, ℕ, pred, ◌+◌, ◌<◌, ◌≤◌, inl, inr, List, [], ◌∷◌, ◌++◌, length, Contains, AllPairs, None, refl, sym, ap, ◌∙◌, subst, arith, length-append, append_assoc}
use Rattle.std.proofs.lemmas.List.Elements.{Contains-append_left, Contains-append_cases}
use Rattle.std.proofs.lemmas.Bool.{cases_eq, cases_lt}
use Rattle.gen_types.proofs.Lists.{Contains_cases, Contains_nil, Contains-middle}
use Rattle.gen_net.specs.declared.message.Message.{Message}
use Rattle.gen_net.specs.Network.{Network, rounds, AreNeighbours}
use Rattle.gen_net.specs.Run.{Run, IsWellFormed, IsRun, Adds, Accepts}
use Rattle.gen_net.specs.Follows.{Conduct, Commands, Relays, Follows, LieutenantFollows}
use Rattle.gen_net.specs.Log.{LogEntry, Started, Signed, Sent, Received, Decided, IsEntry, Keeps, Precedes, place}
use Rattle.gen_net.specs.Departs.{Begins}
use Rattle.gen_core.proofs.Decisions.{arrived_accepted}
use Rattle.gen_local.proofs.Next.{HasRecv, NewIn, IsSoundNext, IsNext, GoesOnNext}
use Rattle.gen_core.proofs.OrderedLists.{AllPairs-head, AllPairs-tail, Precedes-apart, list_of_same, Precedes-trans}

pub AllPairs-across : {X : Type 0} (R : X → X → Type 0) (xs : List X) (e : X) (ys : List X) (x : X) → AllPairs R (xs ++ e ∷ ys) → Contains xs x → R x e
AllPairs-across R [] e ys x all h = absurd (Contains_nil x h)
AllPairs-across R (z ∷ xs) e ys x all h = elim (Contains_cases z x xs h) [
  | inl q ↦ subst (λ w. R w e) q (AllPairs-head R z (xs ++ e ∷ ys) e all (Contains-middle xs e ys))
  | inr k ↦ AllPairs-across R xs e ys x (AllPairs-tail R z (xs ++ e ∷ ys) all) k
]

pub AllPairs-after : {X : Type 0} (R : X → X → Type 0) (xs : List X) (e : X) (ys : List X) (y : X) → AllPairs R (xs ++ e ∷ ys) → Contains ys y → R e y
AllPairs-after R [] e ys y all h = AllPairs-head R e ys y all h
AllPairs-after R (z ∷ xs) e ys y all h = AllPairs-after R xs e ys y (AllPairs-tail R z (xs ++ e ∷ ys) all) h

-- in a list in order, what is before a member stands before it
pub before_of : {X : Type 0} (R : X → X → Type 0) → ((a b : X) → R a b → R b a → ⊥) → (xs : List X) (e : X) (ys : List X) (y : X) → AllPairs R (xs ++ e ∷ ys) → Contains (xs ++ e ∷ ys) y → R y e → Contains xs y
before_of R apart xs e ys y all h r = elim (Contains-append_cases xs (e ∷ ys) y h) [
  | inl k ↦ k
  | inr k ↦ elim (Contains_cases e y ys k) [
    | inl q ↦ let s : R y y = subst (λ w. R y w) q r in absurd (apart y y s s)
    | inr k' ↦ absurd (apart y e r (AllPairs-after R xs e ys y all k'))
  ]
]

-- what a lieutenant sent, he added one round earlier
pub lieutenant_sent : (net : Network) (run : Run) (g : ℕ) (pick : ℕ → List ℕ) → IsRun net run → LieutenantFollows net run g pick → (t : Message) → Contains run t → t.from ≡ g → (l : ℕ) × (l < rounds net) × (length t.path ≡ l + 1) × Adds run g l t.order × (t.path ≡ pick t.order ++ g ∷ []) × AreNeighbours net g t.to × (Contains t.path t.to → ⊥)
lieutenant_sent net run g pick is_run f t h e =
    let m : IsWellFormed net t = is_run.messages t h in
    let pos : 0 < length t.path = omega (arith, ap length m.signer.1, length-append m.signer.0 (t.from ∷ [])) in
    let in_time : length t.path ≤ rounds net = m.in_time in
    let l = pred (length t.path) in
    let l_pos : 0 < l = elim (cases_eq (length t.path) 1) [
      | inl one ↦ absurd (f.silent t (h, one) e)
      | inr more ↦ omega arith
    ] in
    let l_below : l < rounds net = omega arith in
    let l_next : length t.path ≡ l + 1 = omega arith in
    let s = (f.sends l t l_pos l_below e).0 (h, l_next) in
    (l, l_below, l_next, s.added, s.longer, s.neighbour, s.outside)

module _ (net : Network) (g : ℕ) (run : Run) (pick : ℕ → List ℕ) (is_run : IsRun net run) (f : LieutenantFollows net run g pick) (before : List LogEntry) (e : LogEntry) (rest : List LogEntry) (k : Keeps net run g (Relays pick) (before ++ e ∷ rest)) where
  -- what the log has before e's place stands before e
  earlier : (x : LogEntry) → IsEntry net run g (Relays pick) x → Precedes (place net x) (place net e) → Contains before x
  earlier x h r = before_of (λ a b. Precedes (place net a) (place net b)) (λ a b. Precedes-apart (place net a) (place net b)) before e rest x k.in_order ((k.entries x).1 h) r

  entry_before : (x : LogEntry) → Contains before x → IsEntry net run g (Relays pick) x
  entry_before x h = (k.entries x).0 (Contains-append_left before (e ∷ rest) x h)

  itself : IsEntry net run g (Relays pick) e
  itself = (k.entries e).0 (Contains-middle before e rest)

  -- a chain that came, and whose RECV has an earlier place, is a RECV before e
  received_at : (t : Message) → Contains run t → t.to ≡ g → (v : ℕ) → t.order ≡ v → Precedes (place net (Received t.from t.order t.path)) (place net e) → HasRecv before v t.path
  received_at t h to v order r =
      let x : LogEntry = Received t.from t.order t.path in
      let i : IsEntry net run g (Relays pick) x = subst (λ y. Contains run (record { from = t.from; to = y; order = t.order; path = t.path })) to h in
      (t.from, subst (λ w. Contains before (Received t.from w t.path)) order (earlier x i r))

  received : (t : Message) (l : ℕ) → Contains run t → t.to ≡ g → length t.path ≤ l → (v : ℕ) → t.order ≡ v → (tail : List ℕ) → Precedes ((l + 1) ∷ tail) (place net e) → HasRecv before v t.path
  received t l h to short v order tail r =
      let x : LogEntry = Received t.from t.order t.path in
      let b : Precedes (place net x) ((l + 1) ∷ tail) = inl (omega arith) in
      received_at t h to v order (Precedes-trans (place net x) ((l + 1) ∷ tail) (place net e) b r)

  signed_ok : (l v : ℕ) → NewIn before l v → l < rounds net → Precedes ((l + 1) ∷ 0 ∷ v ∷ []) (place net e) → (path : List ℕ) × Contains before (Signed v path)
  signed_ok l v n below r =
      let h = entry_before (Received n.received.0 v n.path) n.received.1 in
      let a : Adds run g l v = record {
        arrives = (record { from = n.received.0; to = g; order = v; path = n.path }, ((h, n.round), refl), refl);
        new = λ j less c.
            let t = c.0 in
            let len : length t.path ≡ j = c.1.0.1 in
            let q = received t l c.1.0.0 c.1.1 (omega arith) v c.2 (0 ∷ v ∷ []) r in
            let low : l ≤ length t.path = n.first t.path q in
            omega arith;
      } in
      let u = f.picks l v a in
      let len : length (pick v ++ g ∷ []) ≡ l + 1 = let e1 : length u.0.path ≡ l = u.1.0.1 in let e2 : u.0.path ≡ pick v = u.3 in omega (arith, length-append (pick v) (g ∷ []), ap length e2) in
      (pick v ++ g ∷ [], earlier (Signed v (pick v ++ g ∷ [])) (l, below, a, refl) (rw len r))

  sent_ok : (to v : ℕ) (path : List ℕ) → Contains before (Signed v path) → AreNeighbours net g to → (Contains path to → ⊥) → Precedes (length path ∷ 1 ∷ to ∷ v ∷ []) (place net e) → Contains before (Sent to v path)
  sent_ok to v path h near outside r =
      let i = entry_before (Signed v path) h in
      let l = i.0 in
      let below : l < rounds net = i.1 in
      let a : Adds run g l v = i.2 in
      let t : Message = record { from = g; to = to; order = v; path = path } in
      let u = f.picks l v a in
      let pos : 0 < l =
      let m = is_run.messages u.0 u.1.0.0 in
      let len : length u.0.path ≡ l = u.1.0.1 in
      omega (arith, ap length m.signer.1, length-append m.signer.0 (u.0.from ∷ [])) in
      let s = (f.sends l t pos below refl).1 (record { added = a; longer = i.3; neighbour = near; outside = outside }) in
      earlier (Sent to v path) s.0 r

  sound_ok : (x : LogEntry) → place net x ≡ place net e → IsEntry net run g (Relays pick) x → IsSoundNext net g before x
  sound_ok (Started general own) q h = h
  sound_ok (Signed v path) q h =
      let l = h.0 in
      let a : Adds run g l v = h.2 in
      let u = f.picks l v a in
      let e1 : length u.0.path ≡ l = u.1.0.1 in
      let e2 : u.0.path ≡ pick v = u.3 in
      let e3 : path ≡ pick v ++ g ∷ [] = h.3 in
      let len : length path ≡ l + 1 = omega (arith, ap length e3, length-append (pick v) (g ∷ []), ap length e2) in
      let here : Precedes (place net (Received u.0.from v u.0.path)) (place net e) = subst (λ p. Precedes (place net (Received u.0.from v u.0.path)) p) q (inl (omega arith)) in
      let i : IsEntry net run g (Relays pick) (Received u.0.from v u.0.path) = subst (λ w. Contains run (record { from = u.0.from; to = g; order = w; path = u.0.path })) u.2 (subst (λ y. Contains run (record { from = u.0.from; to = y; order = u.0.order; path = u.0.path })) u.1.1 u.1.0.0) in
      let r : HasRecv before v u.0.path = (u.0.from, earlier (Received u.0.from v u.0.path) i here) in (
        l,
        h.1,
        record {
          path = u.0.path;
          received = r;
          round = e1;
          first = λ other o.
              let c = entry_before (Received o.0 v other) o.1 in
              elim (cases_lt (length other) l) [
                | inl less ↦ absurd (a.new (length other) less (record { from = o.0; to = g; order = v; path = other }, ((c, refl), refl), refl))
                | inr more ↦ more
              ];
        },
        (u.0.path, r, e1, e3 ∙ ap (λ p. p ++ g ∷ []) (sym e2)),
      )
  sound_ok (Sent to v path) q h =
      let t : Message = record { from = g; to = to; order = v; path = path } in
      let s = lieutenant_sent net run g pick is_run f t h refl in
      (earlier (Signed v path) (s.0, s.1, s.3, s.4) (subst (λ p. Precedes (place net (Signed v path)) p) q (inr (refl, inl (omega arith)))), s.5, s.6)
  sound_ok (Received from v path) q h = is_run.messages (record { from = from; to = g; order = v; path = path }) h
  sound_ok (Decided orders order) q h = (
    list_of_same (Accepts net run g) (λ v. (path : List ℕ) × HasRecv before v path) (λ v. (
      (λ a.
          let c = a.2.arrives in
          let in_time : length c.0.path ≤ rounds net = (is_run.messages c.0 c.1.0.0).in_time in
          (c.0.path, received_at c.0 c.1.0.0 c.1.1 v c.2 (subst (λ p. Precedes (place net (Received c.0.from c.0.order c.0.path)) p) q (inl (omega arith))))),
      (λ p. arrived_accepted net run is_run g v (record { from = p.1.0; to = g; order = v; path = p.0 }) (entry_before (Received p.1.0 v p.0) p.1.1) refl refl),
    )) orders h.0,
    h.1,
  )

  is_next : IsNext net g before e
  is_next = record {
    in_place = λ x h. AllPairs-across (λ a b. Precedes (place net a) (place net b)) before e rest x k.in_order h;
    sound = sound_ok e refl itself;
    started = λ r. earlier (Started g None) (refl, refl) r;
    signed = signed_ok;
    sent = sent_ok;
  }

steps_of : (net : Network) (g : ℕ) → g ≢ 0 → (run : Run) (c : Conduct) → IsRun net run → Follows net run g c → (log : List LogEntry) → Keeps net run g c log → (before rest : List LogEntry) (e : LogEntry) → log ≡ before ++ e ∷ rest → IsNext net g before e
steps_of net g ng run (Commands own) is_run f log k before rest e q = absurd (ng f.0)
steps_of net g ng run (Relays pick) is_run f log k before rest e q = is_next net g run pick is_run f.1 before e rest (subst (λ l. Keeps net run g (Relays pick) l) q k)

pub goes_on : (net : Network) (g : ℕ) → g ≢ 0 → (entries : List LogEntry) → Begins net g entries → GoesOnNext net g entries
goes_on net g ng entries b before after e q =
    let l = b.1 in
    steps_of net g ng l.run l.conduct l.run_of_net l.follows (entries ++ b.0) l.keeps before (after ++ b.0) e (ap (λ p. p ++ b.0) q ∙ append_assoc before (e ∷ after) b.0)

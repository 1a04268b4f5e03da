-- A follower has a log: his entries are finitely many, and no two have one place.
use Rattle.std.proofs.Common.{◌≡◌, ℕ, ◌+◌, ◌<◌, ◌⊎◌, ◌↔◌, inl, inr, List, [], ◌∷◌, ◌++◌, length, Contains, AllPairs, Option, Some, None, refl, sym, ap, ◌∙◌, subst, arith}
use Rattle.std.specs.List.{flat_map}
use Rattle.std.proofs.lemmas.List.Elements.{Contains-append_left, Contains-append_right, Contains-append_cases}
use Rattle.std.proofs.lemmas.Bool.{cases_eq}
use Rattle.gen_types.specs.Ascending.{IsListOf}
use Rattle.gen_types.proofs.Lists.{below_or_least, Contains_here, Contains_there, Contains_cases, Contains_nil}
use Rattle.gen_net.specs.declared.message.Message.{Message}
use Rattle.gen_net.specs.Network.{Network, rounds, choose}
use Rattle.gen_net.specs.Run.{Run, IsRun, OrderArrives, Adds, Accepts}
use Rattle.gen_net.specs.Follows.{Conduct, Commands, Relays}
use Rattle.gen_net.specs.Log.{LogEntry, Started, Signed, Sent, Received, Decided, IsEntry, Keeps, Precedes, place}
use Rattle.gen_core.proofs.Rounds.{decide_arrives}
use Rattle.gen_core.proofs.Decisions.{decide_accepts, list_below}
use Rattle.gen_core.specs.Keeping.{LogExists, OneLog}
use Rattle.gen_core.proofs.OrderedLists.{same_members, Precedes-apart, AllPairs-head, AllPairs-tail, AllPairs-cons, one_list, list_of_same, Contains_flat_mapped, in_flat_map, only, Precedes-trans, Precedes-total}

pub record Placed {X : Type 0} (R : X → X → Type 0) (xs : List X) : Type 0 where
  pub list : List X
  pub in_order : AllPairs R list
  pub members : (x : X) → Contains list x ↔ Contains xs x

insert : {X : Type 0} (R : X → X → Type 0) → ((a b c : X) → R a b → R b c → R a c) → (x : X) (ys : List X) → AllPairs R ys → ((y : X) → Contains ys y → (x ≡ y) ⊎ (R x y ⊎ R y x)) → Placed R (x ∷ ys)
insert R trans x [] all tri = record { list = x ∷ []; in_order = AllPairs-cons R x [] (λ y h. absurd (Contains_nil y h)) all; members = λ z. ((λ h. h), (λ h. h)) }
insert R trans x (y ∷ ys) all tri = elim (tri y (Contains_here y ys)) [
  | inl e ↦ record {
    list = y ∷ ys;
    in_order = all;
    members = λ z. ((λ h. Contains_there x z (y ∷ ys) h), (λ h. elim (Contains_cases x z (y ∷ ys) h) [ inl e' ↦ subst (λ w. Contains (y ∷ ys) w) (sym e ∙ e') (Contains_here y ys) | inr k ↦ k ]));
  }
  | inr (inl r) ↦ record {
    list = x ∷ y ∷ ys;
    in_order = AllPairs-cons R x (y ∷ ys) (λ z h. elim (Contains_cases y z ys h) [ inl e ↦ subst (λ w. R x w) e r | inr k ↦ trans x y z r (AllPairs-head R y ys z all k) ]) all;
    members = λ z. ((λ h. h), (λ h. h));
  }
  | inr (inr r) ↦
      let p = insert R trans x ys (AllPairs-tail R y ys all) (λ z h. tri z (Contains_there y z ys h)) in
      record {
        list = y ∷ p.list;
        in_order = AllPairs-cons R y p.list (λ z h. elim (Contains_cases x z ys ((p.members z).0 h)) [ inl e ↦ subst (λ w. R y w) e r | inr k ↦ AllPairs-head R y ys z all k ]) p.in_order;
        members = λ z. (
          (λ h. elim (Contains_cases y z p.list h) [
            | inl e ↦ Contains_there x z (y ∷ ys) (subst (λ w. Contains (y ∷ ys) w) e (Contains_here y ys))
            | inr k ↦ elim (Contains_cases x z ys ((p.members z).0 k)) [
              | inl e ↦ subst (λ w. Contains (x ∷ y ∷ ys) w) e (Contains_here x (y ∷ ys))
              | inr k' ↦ Contains_there x z (y ∷ ys) (Contains_there y z ys k')
            ]
          ]),
          (λ h. elim (Contains_cases x z (y ∷ ys) h) [
            | inl e ↦ Contains_there y z p.list ((p.members z).1 (subst (λ w. Contains (x ∷ ys) w) e (Contains_here x ys)))
            | inr k ↦ elim (Contains_cases y z ys k) [
              | inl e ↦ subst (λ w. Contains (y ∷ p.list) w) e (Contains_here y p.list)
              | inr k' ↦ Contains_there y z p.list ((p.members z).1 (Contains_there x z ys k'))
            ]
          ]),
        );
      }
]

pub in_order_of : {X : Type 0} (R : X → X → Type 0) → ((a b c : X) → R a b → R b c → R a c) → (xs : List X) → ((x y : X) → Contains xs x → Contains xs y → (x ≡ y) ⊎ (R x y ⊎ R y x)) → Placed R xs
in_order_of R trans [] tri = record { list = []; in_order = λ i j d l m. absurd (omega arith); members = λ z. ((λ h. h), (λ h. h)) }
in_order_of R trans (x ∷ xs) tri =
    let p = in_order_of R trans xs (λ a b h k. tri a b (Contains_there x a xs h) (Contains_there x b xs k)) in
    let q = insert R trans x p.list p.in_order (λ y h. tri x y (Contains_here x xs) (Contains_there x y xs ((p.members y).0 h))) in
    record {
      list = q.list;
      in_order = q.in_order;
      members = λ z. (
        (λ h. elim (Contains_cases x z p.list ((q.members z).0 h)) [
          | inl e ↦ subst (λ w. Contains (x ∷ xs) w) e (Contains_here x xs)
          | inr k ↦ Contains_there x z xs ((p.members z).0 k)
        ]),
        (λ h. (q.members z).1 (elim (Contains_cases x z xs h) [
          | inl e ↦ subst (λ w. Contains (x ∷ p.list) w) e (Contains_here x p.list)
          | inr k ↦ Contains_there x z p.list ((p.members z).1 k)
        ])),
      );
    }

same_start : (net : Network) (run : Run) (g : ℕ) (c : Conduct) (a : ℕ) (b : Option ℕ) (a' : ℕ) (b' : Option ℕ) → IsEntry net run g c (Started a b) → IsEntry net run g c (Started a' b') → Started a b ≡ Started a' b'
same_start net run g (Commands own) a b a' b' h k = let e1 = h.0 in let e2 = h.1 in let e3 = k.0 in let e4 = k.1 in cc
same_start net run g (Relays pick) a b a' b' h k = let e1 = h.0 in let e2 = h.1 in let e3 = k.0 in let e4 = k.1 in cc

same_sign : (net : Network) (run : Run) (g : ℕ) (c : Conduct) (a : ℕ) (b : List ℕ) (a' : ℕ) (b' : List ℕ) → IsEntry net run g c (Signed a b) → IsEntry net run g c (Signed a' b') → a ≡ a' → Signed a b ≡ Signed a' b'
same_sign net run g (Commands own) a b a' b' h k e = let e2 = h.1 in let e4 = k.1 in cc
same_sign net run g (Relays pick) a b a' b' h k e = let e2 = h.3 in let e4 = k.3 in cc

same_decide : (net : Network) (run : Run) (g : ℕ) (c : Conduct) (a : List ℕ) (b : ℕ) (a' : List ℕ) (b' : ℕ) → IsEntry net run g c (Decided a b) → IsEntry net run g c (Decided a' b') → Decided a b ≡ Decided a' b'
same_decide net run g (Commands own) a b a' b' h k = let e1 = h.0 in let e2 = h.1 in let e3 = k.0 in let e4 = k.1 in cc
same_decide net run g (Relays pick) a b a' b' h k = let e = one_list (Accepts net run g) a a' h.0 k.0 in let e2 = h.1 in let e4 = k.1 in cc

-- two entries of a general at one place are one entry
one_place : (net : Network) (run : Run) (g : ℕ) (c : Conduct) → IsRun net run → (e f : LogEntry) → IsEntry net run g c e → IsEntry net run g c f → place net e ≡ place net f → e ≡ f
one_place net run g c is_run (Started a b) (Started a' b') h k p = same_start net run g c a b a' b' h k
one_place net run g c is_run (Started a b) (Signed a' b') h k p = cc
one_place net run g c is_run (Started a b) (Sent a' b' d') h k p = cc
one_place net run g c is_run (Started a b) (Received a' b' d') h k p = cc
one_place net run g c is_run (Started a b) (Decided a' b') h k p = let z : 0 ≡ rounds net + 1 = cc in absurd (omega arith)
one_place net run g c is_run (Signed a b) (Started a' b') h k p = cc
one_place net run g c is_run (Signed a b) (Signed a' b') h k p = same_sign net run g c a b a' b' h k (cc)
one_place net run g c is_run (Signed a b) (Sent a' b' d') h k p = cc
one_place net run g c is_run (Signed a b) (Received a' b' d') h k p = cc
one_place net run g c is_run (Signed a b) (Decided a' b') h k p = cc
one_place net run g c is_run (Sent a b d) (Started a' b') h k p = cc
one_place net run g c is_run (Sent a b d) (Signed a' b') h k p = cc
one_place net run g c is_run (Sent a b d) (Sent a' b' d') h k p =
    let t : Message = record { from = g; to = a; order = b; path = d } in
    let u : Message = record { from = g; to = a'; order = b'; path = d' } in
    let lengths : length d' ≡ length d = cc in
    let same : t ≡ u = is_run.once (length d) t u (h, refl) (k, lengths) refl (cc) (cc) in
    ap (λ x. Sent x.to x.order x.path) same
one_place net run g c is_run (Sent a b d) (Received a' b' d') h k p = cc
one_place net run g c is_run (Sent a b d) (Decided a' b') h k p = cc
one_place net run g c is_run (Received a b d) (Started a' b') h k p = cc
one_place net run g c is_run (Received a b d) (Signed a' b') h k p = cc
one_place net run g c is_run (Received a b d) (Sent a' b' d') h k p = cc
one_place net run g c is_run (Received a b d) (Received a' b' d') h k p =
    let t : Message = record { from = a; to = g; order = b; path = d } in
    let u : Message = record { from = a'; to = g; order = b'; path = d' } in
    let lengths : length d' ≡ length d = cc in
    let same : t ≡ u = is_run.once (length d) t u (h, refl) (k, lengths) (cc) refl (cc) in
    ap (λ x. Received x.from x.order x.path) same
one_place net run g c is_run (Received a b d) (Decided a' b') h k p = cc
one_place net run g c is_run (Decided a b) (Started a' b') h k p = let z : rounds net + 1 ≡ 0 = cc in absurd (omega arith)
one_place net run g c is_run (Decided a b) (Signed a' b') h k p = cc
one_place net run g c is_run (Decided a b) (Sent a' b' d') h k p = cc
one_place net run g c is_run (Decided a b) (Received a' b' d') h k p = cc
one_place net run g c is_run (Decided a b) (Decided a' b') h k p = same_decide net run g c a b a' b' h k

-- a finite list of the entries of a general
pub record Finite (P : LogEntry → Type 0) : Type 0 where
  pub list : List LogEntry
  pub members : (e : LogEntry) → Contains list e ↔ P e

make_log : (net : Network) (run : Run) (g : ℕ) (c : Conduct) → IsRun net run → Finite (IsEntry net run g c) → (log : List LogEntry) × Keeps net run g c log
make_log net run g c is_run f =
    let p = in_order_of (λ e e'. Precedes (place net e) (place net e')) (λ a b d. Precedes-trans (place net a) (place net b) (place net d)) f.list (λ e e' h k. elim (Precedes-total (place net e) (place net e')) [
      | inl same ↦ inl (one_place net run g c is_run e e' ((f.members e).0 h) ((f.members e').0 k) same)
      | inr apart ↦ inr apart
    ]) in
    (p.list, record { in_order = p.in_order; entries = λ e. ((λ h. (f.members e).0 ((p.members e).0 h)), (λ h. (p.members e).1 ((f.members e).1 h))) })

-- the SENDs and RECVs of a general
send_if : (g : ℕ) (t : Message) → (t.from ≡ g) ⊎ (t.from ≡ g → ⊥) → List LogEntry
send_if g t (inl e) = Sent t.to t.order t.path ∷ []
send_if g t (inr ne) = []

recv_if : (g : ℕ) (t : Message) → (t.to ≡ g) ⊎ (t.to ≡ g → ⊥) → List LogEntry
recv_if g t (inl e) = Received t.from t.order t.path ∷ []
recv_if g t (inr ne) = []

moves : ℕ → Message → List LogEntry
moves g t = send_if g t (cases_eq t.from g) ++ recv_if g t (cases_eq t.to g)

module _ (net : Network) (run : Run) (g : ℕ) where
  send_sound : (c : Conduct) (t : Message) (d : (t.from ≡ g) ⊎ (t.from ≡ g → ⊥)) (e : LogEntry) → Contains run t → Contains (send_if g t d) e → IsEntry net run g c e
  unfolding send_if
  send_sound c t (inl same) e h k = subst (IsEntry net run g c) (only (Sent t.to t.order t.path) e k) (subst (λ x. Contains run (record { from = x; to = t.to; order = t.order; path = t.path })) same h)
  send_sound c t (inr other) e h k = absurd (Contains_nil e k)

  recv_sound : (c : Conduct) (t : Message) (d : (t.to ≡ g) ⊎ (t.to ≡ g → ⊥)) (e : LogEntry) → Contains run t → Contains (recv_if g t d) e → IsEntry net run g c e
  unfolding recv_if
  recv_sound c t (inl same) e h k = subst (IsEntry net run g c) (only (Received t.from t.order t.path) e k) (subst (λ x. Contains run (record { from = t.from; to = x; order = t.order; path = t.path })) same h)
  recv_sound c t (inr other) e h k = absurd (Contains_nil e k)

  send_full : (t : Message) (d : (t.from ≡ g) ⊎ (t.from ≡ g → ⊥)) → t.from ≡ g → Contains (send_if g t d) (Sent t.to t.order t.path)
  unfolding send_if
  send_full t (inl same) e = Contains_here (Sent t.to t.order t.path) []
  send_full t (inr other) e = absurd (other e)

  recv_full : (t : Message) (d : (t.to ≡ g) ⊎ (t.to ≡ g → ⊥)) → t.to ≡ g → Contains (recv_if g t d) (Received t.from t.order t.path)
  unfolding recv_if
  recv_full t (inl same) e = Contains_here (Received t.from t.order t.path) []
  recv_full t (inr other) e = absurd (other e)

  moves_sound : (c : Conduct) (e : LogEntry) → Contains (flat_map (moves g) run) e → IsEntry net run g c e
  unfolding moves
  moves_sound c e h =
      let r = Contains_flat_mapped (moves g) run e h in
      let t = r.0 in
      elim (Contains-append_cases (send_if g t (cases_eq t.from g)) (recv_if g t (cases_eq t.to g)) e r.2) [
        | inl s ↦ send_sound c t (cases_eq t.from g) e r.1 s
        | inr s ↦ recv_sound c t (cases_eq t.to g) e r.1 s
      ]

  move_full : (t : Message) → Contains run t → (e : LogEntry) → Contains (moves g t) e → Contains (flat_map (moves g) run) e
  move_full t h e k = in_flat_map (moves g) run t e h k

  sends_full : (to order : ℕ) (path : List ℕ) → Contains run (record { from = g; to = to; order = order; path = path }) → Contains (flat_map (moves g) run) (Sent to order path)
  unfolding moves
  sends_full to order path h =
      let t : Message = record { from = g; to = to; order = order; path = path } in
      move_full t h (Sent to order path) (Contains-append_left (send_if g t (cases_eq t.from g)) (recv_if g t (cases_eq t.to g)) (Sent to order path) (send_full t (cases_eq t.from g) refl))

  recvs_full : (from order : ℕ) (path : List ℕ) → Contains run (record { from = from; to = g; order = order; path = path }) → Contains (flat_map (moves g) run) (Received from order path)
  unfolding moves
  recvs_full from order path h =
      let t : Message = record { from = from; to = g; order = order; path = path } in
      move_full t h (Received from order path) (Contains-append_right (send_if g t (cases_eq t.from g)) (recv_if g t (cases_eq t.to g)) (Received from order path) (recv_full t (cases_eq t.to g) refl))

  finite_commander : (own : ℕ) → Finite (IsEntry net run g (Commands own))
  finite_commander own = record { list = start ∷ sign ∷ decision ∷ rest; members = λ e. (sound e, full e) }
    where
      start : LogEntry
      start = Started g (Some own)

      sign : LogEntry
      sign = Signed own (g ∷ [])

      decision : LogEntry
      decision = Decided (own ∷ []) own

      rest : List LogEntry
      rest = flat_map (moves g) run

      sound : (e : LogEntry) → Contains (start ∷ sign ∷ decision ∷ rest) e → IsEntry net run g (Commands own) e
      sound e h = elim (Contains_cases start e (sign ∷ decision ∷ rest) h) [
        | inl q ↦ subst (IsEntry net run g (Commands own)) q (refl, refl)
        | inr h1 ↦ elim (Contains_cases sign e (decision ∷ rest) h1) [
          | inl q ↦ subst (IsEntry net run g (Commands own)) q (refl, refl)
          | inr h2 ↦ elim (Contains_cases decision e rest h2) [
            | inl q ↦ subst (IsEntry net run g (Commands own)) q (refl, refl)
            | inr h3 ↦ moves_sound (Commands own) e h3
          ]
        ]
      ]

      behind : (e : LogEntry) → Contains rest e → Contains (start ∷ sign ∷ decision ∷ rest) e
      behind e k = Contains_there start e (sign ∷ decision ∷ rest) (Contains_there sign e (decision ∷ rest) (Contains_there decision e rest k))

      full : (e : LogEntry) → IsEntry net run g (Commands own) e → Contains (start ∷ sign ∷ decision ∷ rest) e
      full (Started a b) h = let e1 = h.0 in let e2 = h.1 in let q : start ≡ Started a b = cc in subst (λ x. Contains (start ∷ sign ∷ decision ∷ rest) x) q (Contains_here start (sign ∷ decision ∷ rest))
      full (Signed a b) h = let e1 = h.0 in let e2 = h.1 in let q : sign ≡ Signed a b = cc in subst (λ x. Contains (start ∷ sign ∷ decision ∷ rest) x) q (Contains_there start sign (sign ∷ decision ∷ rest) (Contains_here sign (decision ∷ rest)))
      full (Sent a b d) h = behind (Sent a b d) (sends_full a b d h)
      full (Received a b d) h = behind (Received a b d) (recvs_full a b d h)
      full (Decided a b) h = let e1 = h.0 in let e2 = h.1 in let q : decision ≡ Decided a b = cc in subst (λ x. Contains (start ∷ sign ∷ decision ∷ rest) x) q (Contains_there start decision (sign ∷ decision ∷ rest) (Contains_there sign decision (decision ∷ rest) (Contains_here decision rest)))

  -- the orders that g adds before the last round
  abbrev pub Signs : ℕ → Type 0
  Signs v = (l : ℕ) × (l < rounds net) × Adds run g l v

  pub decide_signs : (v : ℕ) → Signs v ⊎ (Signs v → ⊥)
  decide_signs v = elim (below_or_least (λ l. OrderArrives run g l v) (λ l. decide_arrives run g l v) (rounds net)) [
    | inl none ↦ inr (λ h. none h.0 h.1 h.2.arrives)
    | inr f ↦ inl (f.0, f.1, record { arrives = f.2; new = f.3 })
  ]

  finite_lieutenant : (pick : ℕ → List ℕ) → IsRun net run → Finite (IsEntry net run g (Relays pick))
  finite_lieutenant pick is_run = record { list = start ∷ decision ∷ (signs ++ rest); members = λ e. (sound e, full e) }
    where
      start : LogEntry
      start = Started g None

      known : (v : ℕ) → (l : ℕ) → Adds run g l v → v < net.orders
      known v l a = let c = a.arrives in subst (λ w. w < net.orders) c.2 (is_run.messages c.0 c.1.0.0).chain.order_known

      accepted : (vs : List ℕ) × IsListOf vs (Accepts net run g)
      accepted =
          let r = list_below (Accepts net run g) (decide_accepts net run is_run g) net.orders in
          (r.0, list_of_same (λ v. (v < net.orders) × Accepts net run g v) (Accepts net run g) (λ v. ((λ h. h.1), (λ a. (known v a.0 a.2, a)))) r.0 r.1)

      decision : LogEntry
      decision = Decided accepted.0 (choose net accepted.0)

      signed : (vs : List ℕ) × IsListOf vs (λ v. (v < net.orders) × Signs v)
      signed = list_below Signs decide_signs net.orders

      sign : ℕ → List LogEntry
      sign v = Signed v (pick v ++ g ∷ []) ∷ []

      signs : List LogEntry
      signs = flat_map sign signed.0

      rest : List LogEntry
      rest = flat_map (moves g) run

      sound : (e : LogEntry) → Contains (start ∷ decision ∷ (signs ++ rest)) e → IsEntry net run g (Relays pick) e
      sound e h = elim (Contains_cases start e (decision ∷ (signs ++ rest)) h) [
        | inl q ↦ subst (IsEntry net run g (Relays pick)) q (refl, refl)
        | inr h1 ↦ elim (Contains_cases decision e (signs ++ rest) h1) [
          | inl q ↦ subst (IsEntry net run g (Relays pick)) q (accepted.1, refl)
          | inr h2 ↦ elim (Contains-append_cases signs rest e h2) [
            | inl h3 ↦
                let r = Contains_flat_mapped sign signed.0 e h3 in
                let s = ((signed.1.members r.0).0 r.1).1 in
                subst (IsEntry net run g (Relays pick)) (only (Signed r.0 (pick r.0 ++ g ∷ [])) e r.2) (s.0, s.1, s.2, refl)
            | inr h3 ↦ moves_sound (Relays pick) e h3
          ]
        ]
      ]

      behind : (e : LogEntry) → Contains (signs ++ rest) e → Contains (start ∷ decision ∷ (signs ++ rest)) e
      behind e k = Contains_there start e (decision ∷ (signs ++ rest)) (Contains_there decision e (signs ++ rest) k)

      full : (e : LogEntry) → IsEntry net run g (Relays pick) e → Contains (start ∷ decision ∷ (signs ++ rest)) e
      full (Started a b) h = let e1 = h.0 in let e2 = h.1 in let q : start ≡ Started a b = cc in subst (λ x. Contains (start ∷ decision ∷ (signs ++ rest)) x) q (Contains_here start (decision ∷ (signs ++ rest)))
      full (Signed a b) h =
          let e1 : b ≡ pick a ++ g ∷ [] = h.3 in
          let q : Signed a (pick a ++ g ∷ []) ≡ Signed a b = cc in
          let i : Contains signed.0 a = (signed.1.members a).1 (known a h.0 h.2, (h.0, h.1, h.2)) in
          behind (Signed a b) (Contains-append_left signs rest (Signed a b) (in_flat_map sign signed.0 a (Signed a b) i (subst (λ x. Contains (sign a) x) q (Contains_here (Signed a (pick a ++ g ∷ [])) []))))
      full (Sent a b d) h = behind (Sent a b d) (Contains-append_right signs rest (Sent a b d) (sends_full a b d h))
      full (Received a b d) h = behind (Received a b d) (Contains-append_right signs rest (Received a b d) (recvs_full a b d h))
      full (Decided a b) h =
          let e1 : accepted.0 ≡ a = one_list (Accepts net run g) accepted.0 a accepted.1 h.0 in
          let e2 : b ≡ choose net a = h.1 in
          let q : Decided accepted.0 (choose net accepted.0) ≡ Decided a b = cc in
          subst (λ x. Contains (start ∷ decision ∷ (signs ++ rest)) x) q (Contains_there start decision (decision ∷ (signs ++ rest)) (Contains_here decision (signs ++ rest)))

pub lieutenant_log : (net : Network) (run : Run) (g : ℕ) (pick : ℕ → List ℕ) → IsRun net run → (log : List LogEntry) × Keeps net run g (Relays pick) log
lieutenant_log net run g pick is_run = make_log net run g (Relays pick) is_run (finite_lieutenant net run g pick is_run)

pub commander_log : (net : Network) (run : Run) (g own : ℕ) → IsRun net run → (log : List LogEntry) × Keeps net run g (Commands own) log
commander_log net run g own is_run = make_log net run g (Commands own) is_run (finite_commander net run g own)

pub has_log : LogExists
has_log net run g (Commands own) is_run = commander_log net run g own is_run
has_log net run g (Relays pick) is_run = lieutenant_log net run g pick is_run

pub one_log : OneLog
one_log net run g c log other k l = same_members (λ e f. Precedes (place net e) (place net f)) (λ e f. Precedes-apart (place net e) (place net f)) log other k.in_order l.in_order (λ e. ((λ h. (l.entries e).1 ((k.entries e).0 h)), (λ h. (k.entries e).1 ((l.entries e).0 h))))

-- Runs in which no loyal signature is forged: what is known of a lieutenant of the rest who stands in a path, and how an order
-- goes on from him to a neighbour.
use Rattle.std.proofs.Common.{◌≡◌, ◌≢◌, ℕ, zero, suc, pred, ◌+◌, ◌<◌, ◌≤◌, inl, inr, List, [], ◌∷◌, ◌++◌, length, Contains, refl, sym, ap, ◌∙◌, subst, arith, length-append, append_assoc}
use Rattle.std.proofs.lemmas.List.Elements.{All-contains}
use Rattle.std.proofs.lemmas.Bool.{cases_eq}
use Rattle.gen_types.proofs.Lists.{split, Contains-middle, decide_contains, split_longer, split_front, not_nil}
use Rattle.gen_net.specs.declared.message.Message.{Message}
use Rattle.gen_net.specs.Network.{Network, rounds, AreNeighbours, IsLoyal}
use Rattle.gen_net.specs.Run.{Run, IsSent, IsWellFormed, IsRun, Adds}
use Rattle.gen_net.specs.Follows.{CommanderFollows, LieutenantFollows, Conduct, Commands, Relays, Follows}
use Rattle.gen_net.specs.Signed.{IsDerivable, IsSignedRun}
use Rattle.gen_core.proofs.Rounds.{added_by}

-- the order of a commander's conduct, and the pick of a lieutenant's
abbrev pub own_of : Conduct → ℕ
own_of (Commands own) = own
own_of (Relays pick) = 0

abbrev pub pick_of : Conduct → ℕ → List ℕ
pick_of (Commands own) v = []
pick_of (Relays pick) v = pick v

-- a run for a set of faulty generals, with the conduct of each of the rest as an order or a pick
pub record RestFollows (net : Network) (faulty : List ℕ) (run : Run) (own : ℕ) (picks : ℕ → ℕ → List ℕ) : Type 0 where
  pub run_of_net : IsRun net run
  pub commander : IsLoyal net faulty 0 → CommanderFollows net run own
  pub lieutenants : (g : ℕ) → IsLoyal net faulty g → g ≢ 0 → LieutenantFollows net run g (picks g)
  pub derivable : (t : Message) → Contains run t → Contains faulty t.from → IsDerivable net faulty run t

-- y added the order in the round that is the front's length, and picked the front
pub record AddedFrom (run : Run) (picks : ℕ → ℕ → List ℕ) (y v : ℕ) (front : List ℕ) : Type 0 where
  pub added : Adds run y (length front) v
  pub picked : picks y v ≡ front

-- the message is what its sender picked, lengthened by himself, and what he picked arrived a round before
pub record RelaysPicked (run : Run) (picks : ℕ → ℕ → List ℕ) (t : Message) : Type 0 where
  pub round : ℕ
  pub next : length t.path ≡ round + 1
  pub added : Adds run t.from round t.order
  pub path : t.path ≡ picks t.from t.order ++ t.from ∷ []
  pub was : Message
  pub was_sent : Contains run was
  pub was_to : was.to ≡ t.from
  pub was_order : was.order ≡ t.order
  pub was_path : was.path ≡ picks t.from t.order
  pub was_length : length was.path ≡ round

commander_of : (net : Network) (run : Run) (g : ℕ) (c : Conduct) → Follows net run g c → g ≡ 0 → CommanderFollows net run (own_of c)
commander_of net run g (Commands own) f e = f.1
commander_of net run g (Relays pick) f e = absurd (f.0 e)

lieutenant_of : (net : Network) (run : Run) (g : ℕ) (c : Conduct) → Follows net run g c → g ≢ 0 → LieutenantFollows net run g (pick_of c)
lieutenant_of net run g (Commands own) f ne = absurd (ne f.0)
lieutenant_of net run g (Relays pick) f ne = f.1

pub rest_follows : (net : Network) (faulty : List ℕ) (run : Run) (conducts : ℕ → Conduct) → IsSignedRun net faulty run conducts → RestFollows net faulty run (own_of (conducts 0)) (λ g. pick_of (conducts g))
rest_follows net faulty run conducts s = record {
  run_of_net = s.run_of_net;
  commander = λ loyal. commander_of net run 0 (conducts 0) (s.follows 0 loyal) refl;
  lieutenants = λ g loyal ne. lieutenant_of net run g (conducts g) (s.follows g loyal) ne;
  derivable = s.derivable;
}

-- a path has a general, so it is no shorter than 1
pub round_positive : (net : Network) (run : Run) → IsRun net run → (t : Message) → Contains run t → 0 < length t.path
round_positive net run ok t h = let m : IsWellFormed net t = ok.messages t h in omega (arith, ap length m.signer.1, length-append m.signer.0 (t.from ∷ []))

-- a sender stands in the path
pub sender_in_path : (net : Network) (run : Run) → IsRun net run → (t : Message) → Contains run t → Contains t.path t.from
sender_in_path net run ok t h = let m : IsWellFormed net t = ok.messages t h in subst (λ p. Contains p t.from) (sym m.signer.1) (Contains-middle m.signer.0 t.from [])

-- a sender who isn't faulty is of the rest
pub sender_loyal : (net : Network) (faulty : List ℕ) (run : Run) → IsRun net run → (t : Message) → Contains run t → (Contains faulty t.from → ⊥) → IsLoyal net faulty t.from
sender_loyal net faulty run ok t h out = (All-contains (λ g. g < net.generals) t.path t.from (ok.messages t h).chain.generals_known (sender_in_path net run ok t h), out)

module _ (net : Network) (faulty : List ℕ) (run : Run) (own : ℕ) (picks : ℕ → ℕ → List ℕ) (follow : RestFollows net faulty run own picks) where
  -- what a lieutenant of the rest sent is what he picked, lengthened by himself
  pub lieutenant_relays_picked : (t : Message) → Contains run t → IsLoyal net faulty t.from → t.from ≢ 0 → RelaysPicked run picks t
  lieutenant_relays_picked t h loyal ne =
      let f : LieutenantFollows net run t.from (picks t.from) = follow.lieutenants t.from loyal ne in
      let m : IsWellFormed net t = follow.run_of_net.messages t h in
      let pos : 0 < length t.path = round_positive net run follow.run_of_net t h in
      let in_time : length t.path ≤ rounds net = m.in_time in
      let l = pred (length t.path) in
      let l_pos : 0 < l = elim (cases_eq (length t.path) 1) [
        | inl one ↦ absurd (f.silent t (h, one) refl)
        | inr more ↦ omega arith
      ] in
      let l_below : l < rounds net = omega arith in
      let l_next : length t.path ≡ l + 1 = omega arith in
      let s = (f.sends l t l_pos l_below refl).0 (h, l_next) in
      let u = f.picks l t.order s.added in
      record {
        round = l;
        next = l_next;
        added = s.added;
        path = s.longer;
        was = u.0;
        was_sent = u.1.0.0;
        was_to = u.1.1;
        was_order = u.2;
        was_path = u.3;
        was_length = u.1.0.1;
      }

  -- a lieutenant of the rest who stands in a path added the order in the round of his place, and picked what is before him
  pub signer_added : (bound : ℕ) (t : Message) → Contains run t → length t.path ≤ bound → (front back : List ℕ) (y : ℕ) → t.path ≡ front ++ y ∷ back → IsLoyal net faulty y → y ≢ 0 → AddedFrom run picks y t.order front
  signer_added zero t h short front back y e loyal ne = absurd (omega (arith, round_positive net run follow.run_of_net t h))
  signer_added (suc bound) t h short front back y e loyal ne = elim (decide_contains faulty t.from) [
    | inl faulty_from ↦ elim (follow.derivable t h faulty_from) [
      | inl nobody ↦ absurd (All-contains (λ g. IsLoyal net faulty g → ⊥) t.path y nobody (subst (λ p. Contains p y) (sym e) (Contains-middle front y back)) loyal)
      | inr d ↦
          let r = split_front front back (d.front ++ d.last ∷ []) d.after y (sym e ∙ d.parts) (λ inside. All-contains (λ g. IsLoyal net faulty g → ⊥) d.after y d.nobody_after inside loyal) in
          let es : d.source.path ≡ front ++ y ∷ (r.0 ++ d.begun.0) = d.begun.1 ∙ ap (λ p. p ++ d.begun.0) r.1 ∙ append_assoc front (y ∷ r.0) d.begun.0 in
          let earlier : length d.source.path < length t.path = d.earlier in
          subst (λ v. AddedFrom run picks y v front) d.same_order (signer_added bound d.source d.sent (omega arith) front (r.0 ++ d.begun.0) y es loyal ne)
    ]
    | inr honest_from ↦ elim (cases_eq t.from 0) [
      | inl zero_from ↦
          let c = ((follow.commander (subst (IsLoyal net faulty) zero_from (sender_loyal net faulty run follow.run_of_net t h honest_from))).sends t zero_from).0 h in
          elim (split_longer front back [] y 0 (sym e ∙ c.2)) [
            | inl last ↦ absurd (ne last.0)
            | inr before ↦ absurd (not_nil front y before.0 (sym before.1))
          ]
      | inr other ↦
          let s = lieutenant_relays_picked t h (sender_loyal net faulty run follow.run_of_net t h honest_from) other in
          elim (split_longer front back (picks t.from t.order) y t.from (sym e ∙ s.path)) [
            | inl last ↦
                let len : s.round ≡ length front = sym s.was_length ∙ ap length (s.was_path ∙ sym last.1) in
                record {
                  added = subst (λ l. Adds run y l t.order) len (subst (λ g. Adds run g s.round t.order) (sym last.0) s.added);
                  picked = ap (λ g. picks g t.order) last.0 ∙ sym last.1;
                }
            | inr before ↦ subst (λ v. AddedFrom run picks y v front) s.was_order (signer_added bound s.was s.was_sent (omega (arith, s.next, s.was_length)) front before.0 y (s.was_path ∙ before.1) loyal ne)
          ]
    ]
  ]

  -- a lieutenant of the rest, beside one who added an order before the last round, has added it one round later
  pub neighbour_adds : (x y l v : ℕ) → IsLoyal net faulty x → x ≢ 0 → IsLoyal net faulty y → y ≢ 0 → AreNeighbours net x y → l < rounds net → Adds run x l v → (k : ℕ) × (k ≤ l + 1) × Adds run y k v
  neighbour_adds x y l v loyal_x nx loyal_y ny near below added =
      let f : LieutenantFollows net run x (picks x) = follow.lieutenants x loyal_x nx in
      let u = f.picks l v added in
      let pos : 0 < length u.0.path = round_positive net run follow.run_of_net u.0 u.1.0.0 in
      let len : length u.0.path ≡ l = u.1.0.1 in
      elim (decide_contains (picks x v ++ x ∷ []) y) [
        | inr outside ↦
            let t : Message = record { from = x; to = y; order = v; path = picks x v ++ x ∷ [] } in
            let s : IsSent run (l + 1) t = (f.sends l t (omega arith) below refl).1 (record { added = added; longer = refl; neighbour = near; outside = outside }) in
            added_by run y (l + 1) v (t, (s, refl), refl)
        | inl inside ↦
            let p = split (picks x v ++ x ∷ []) y inside in
            elim (split_longer p.0 p.1 (picks x v) y x (sym p.2)) [
              | inl last ↦ (l, omega arith, subst (λ g. Adds run g l v) (sym last.0) added)
              | inr before ↦
                  let g = signer_added l u.0 u.1.0.0 (omega arith) p.0 before.0 y (u.3 ∙ before.1) loyal_y ny in
                  let at : length u.0.path ≡ length p.0 + suc (length before.0) = ap length (u.3 ∙ before.1) ∙ length-append p.0 (y ∷ before.0) in
                  (length p.0, omega arith, subst (λ w. Adds run y (length p.0) w) u.2 g.added)
            ]
      ]

  -- where the commander is of the rest every message is of his order
  pub every_order_own : IsLoyal net faulty 0 → (bound : ℕ) (t : Message) → Contains run t → length t.path ≤ bound → t.order ≡ own
  every_order_own loyal zero t h short = absurd (omega (arith, round_positive net run follow.run_of_net t h))
  every_order_own loyal (suc bound) t h short = elim (decide_contains faulty t.from) [
    | inl faulty_from ↦ elim (follow.derivable t h faulty_from) [
      | inl nobody ↦
          let b = (follow.run_of_net.messages t h).chain.from_commander in
          absurd (All-contains (λ g. IsLoyal net faulty g → ⊥) t.path 0 nobody (subst (λ p. Contains p 0) (sym b.1) (Contains-middle [] 0 b.0)) loyal)
      | inr d ↦ let earlier : length d.source.path < length t.path = d.earlier in sym d.same_order ∙ every_order_own loyal bound d.source d.sent (omega arith)
    ]
    | inr honest_from ↦ elim (cases_eq t.from 0) [
      | inl zero_from ↦ (((follow.commander loyal).sends t zero_from).0 h).1
      | inr other ↦
          let s = lieutenant_relays_picked t h (sender_loyal net faulty run follow.run_of_net t h honest_from) other in
          sym s.was_order ∙ every_order_own loyal bound s.was s.was_sent (omega (arith, s.next, s.was_length))
    ]
  ]

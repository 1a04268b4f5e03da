-- An entry may follow exactly where the state allows it.
use Rattle.std.proofs.Common.{◌≡◌, ℕ, zero, suc, ◌+◌, ◌<◌, ◌≤◌, ◌⊎◌, inl, inr, List, [], ◌∷◌, ◌++◌, length, Contains, Option, Some, refl, sym, ap, ◌∙◌, subst, arith, length-append}
use Rattle.std.specs.Prelude.{slice_index_or}
use Rattle.std.proofs.lemmas.Bool.{cases_eq, cases_lt}
use Rattle.gen_net.specs.Network.{Network, rounds, AreNeighbours, IsNetwork}
use Rattle.gen_net.proofs.Neighbours.{joined_below}
use Rattle.gen_net.specs.Log.{LogEntry, Started, Signed, Sent, Received, Decided, place, Precedes}
use Rattle.gen_local.specs.Following.{Learns, IsToSign, IsSound, MayFollow}
use Rattle.gen_core.proofs.OrderedLists.{list_of_same, Precedes-apart}
use Rattle.gen_local.specs.declared.progress.Progress.{Progress}
use Rattle.gen_local.specs.declared.progress.Progress.TheVariants.{Unlearnt, Learnt, Relayed}
use Rattle.gen_local.specs.Keys.{key, sign_key, send_key, IsSmall}
use Rattle.gen_local.specs.Walking.State.{IsDueTo, IsLearnt, HasCome, IsAfter}
use Rattle.gen_local.specs.Walking.Judged.{Stops, CanSign, CanSend, IsKnown, IsAllowed, HasStarted, IsJudged}
use Rattle.gen_local.proofs.KeyOrder.{precedes_less, less_precedes}

no_length : (xs : List ℕ) → length xs ≡ 0 → xs ≡ []
no_length [] e = refl
no_length (x ∷ xs) e = absurd (omega (arith, e))

-- nothing stands before an entry at its own place
not_itself : (net : Network) (x y : LogEntry) → place net x ≡ place net y → Precedes (place net x) (place net y) → ⊥
not_itself net x y q h = let r : Precedes (place net x) (place net x) = subst (λ p. Precedes (place net x) p) (sym q) h in Precedes-apart (place net x) (place net x) r r

module _ (net : Network) (ok : IsNetwork net) (g : ℕ) (before : List LogEntry) (least : ℕ) (orders : List Progress) (a : IsAfter net g before least orders) (e : LogEntry) (small : IsSmall e) where
  abbrev state : ℕ → Progress
  state v = slice_index_or orders v Unlearnt

  learns_small : (v : ℕ) (path : List ℕ) → Learns g before v path → v < 16
  learns_small v path (inl h) = a.small (Started g (Some v)) h.0
  learns_small v path (inr h) = (a.small (Received h.0 v path) h.1).1

  known_learns : (v : ℕ) (s : Progress) → HasCome net g before v s → IsKnown s → (path : List ℕ) × Learns g before v path
  known_learns v Unlearnt c k = absurd k
  known_learns v (Learnt round) c k = (c.path, c.learns)
  known_learns v (Relayed path next) c k = (c.known, c.learns)

  learns_known : (v : ℕ) (path : List ℕ) (s : Progress) → HasCome net g before v s → Learns g before v path → IsKnown s
  learns_known v path Unlearnt c l = c.unknown path l
  learns_known v path (Learnt round) c l = tt
  learns_known v path (Relayed other next) c l = tt

  same_known : (v : ℕ) → ((v < 16) × IsKnown (state v) → (path : List ℕ) × Learns g before v path) × ((path : List ℕ) × Learns g before v path → (v < 16) × IsKnown (state v))
  same_known v = (
    (λ h. known_learns v (state v) (a.each v h.0) h.1),
    (λ h. let below = learns_small v h.0 h.1 in (below, learns_known v h.0 (state v) (a.each v below) h.1)),
  )

  round_is : (v round : ℕ) (c : IsLearnt net g before v round) (path : List ℕ) (s : IsToSign net g before v path) → length s.picked ≡ round
  round_is v round c path s = let l = c.first s.picked s.learns in let m = s.shortest c.path c.learns in omega (arith, l, m, c.len)

  signed_length : (v : ℕ) (path : List ℕ) (s : IsToSign net g before v path) → length path ≡ length s.picked + 1
  signed_length v path s = omega (arith, ap length s.longer, length-append s.picked (g ∷ []))

  -- ---- what is judged well may follow
  module _ (j : IsJudged net g before least orders e) where
    sign_sound : (v : ℕ) (path : List ℕ) (s : Progress) → HasCome net g before v s → CanSign net g before v s path → IsToSign net g before v path
    sign_sound v path Unlearnt c h = absurd h
    sign_sound v path (Learnt round) c h =
        let below : round < rounds net = h.0 in
        let picked = h.1.0 in
        let len : length picked ≡ round = h.1.2 in
        record {
          picked = picked;
          learns = elim (h.1.3) [
            | inl none ↦
                let zero_round : round ≡ 0 = sym len ∙ ap length none in
                let own : c.path ≡ [] = no_length c.path (c.len ∙ zero_round) in
                subst (Learns g before v) (own ∙ sym none) c.learns
            | inr r ↦ inr r
          ];
          shortest = λ other o. let l = c.first other o in omega (arith, l, len);
          in_time = omega (arith, len, below);
          longer = h.1.1;
        }
    sign_sound v path (Relayed other next) c h = absurd h

    send_sound : (to v : ℕ) (path : List ℕ) (s : Progress) → HasCome net g before v s → CanSend net s to path → Contains before (Signed v path) × AreNeighbours net g to × (Contains path to → ⊥)
    send_sound to v path Unlearnt c h = absurd h
    send_sound to v path (Learnt round) c h = absurd h
    send_sound to v path (Relayed other next) c h =
        let known : next < net.generals = subst (λ n. n < net.generals) (sym h.1) h.0 in
        let d = subst (λ n. IsDueTo net g other n) h.1 (c.due known) in
        let d' = subst (λ p. IsDueTo net g p to) h.2 d in
        (subst (λ p. Contains before (Signed v p)) h.2 c.signed, d'.0, d'.1)

    sound : (x : LogEntry) → IsSmall x → IsAllowed net g before orders x → IsSound net g before x
    sound (Started general own) s h = h
    sound (Signed v path) s h = sign_sound v path (state v) (a.each v s) h
    sound (Sent to v path) s h = send_sound to v path (state v) (a.each v s.1) h
    sound (Received from v path) s h = h
    sound (Decided set order) s h = (list_of_same (λ v. (v < 16) × IsKnown (state v)) (λ v. (path : List ℕ) × Learns g before v path) same_known set h.0, h.1)

    starts : (x : LogEntry) → HasStarted least x → Precedes (0 ∷ []) (place net x) → (own : Option ℕ) × Contains before (Started g own)
    starts (Started general own) h (inl r) = absurd (omega (arith, r))
    starts (Started general own) h (inr r) = absurd r.1
    starts (Signed v path) h r = a.started h
    starts (Sent to v path) h r = a.started h
    starts (Received from v path) h r = a.started h
    starts (Decided set order) h r = a.started h

    signs : (v : ℕ) (path : List ℕ) (s : Progress) → v < 16 → HasCome net g before v s → (Stops net v s (key net e) → ⊥) → IsToSign net g before v path → Precedes (length path ∷ 0 ∷ v ∷ []) (place net e) → (other : List ℕ) × Contains before (Signed v other)
    signs v path Unlearnt low c clear s r = absurd (c.unknown s.picked s.learns)
    signs v path (Learnt round) low c clear s r =
        let q = round_is v round c path s in
        let len = signed_length v path s in
        let below : length s.picked < rounds net = s.in_time in
        let less : sign_key (length path) v < key net e = precedes_less net (Signed v path) e low small r in
        let same : length path ≡ round + 1 = omega (arith, q, len) in
        absurd (clear (omega (arith, q, below), subst (λ n. sign_key n v < key net e) same less))
    signs v path (Relayed other next) low c clear s r = (other, c.signed)

    sends : (to v : ℕ) (path : List ℕ) (s : Progress) → v < 16 → to < 16 → HasCome net g before v s → (Stops net v s (key net e) → ⊥) → Contains before (Signed v path) → AreNeighbours net g to → (Contains path to → ⊥) → Precedes (length path ∷ 1 ∷ to ∷ v ∷ []) (place net e) → Contains before (Sent to v path)
    sends to v path Unlearnt low lo c clear h near out r = absurd (c.not_yet.unsigned path h)
    sends to v path (Learnt round) low lo c clear h near out r = absurd (c.not_yet.unsigned path h)
    sends to v path (Relayed other next) low lo c clear h near out r =
        let same : path ≡ other = c.only path h in
        let due : IsDueTo net g other to = subst (λ p. IsDueTo net g p to) same (near, out) in
        elim (cases_lt to next) [
          | inl before_next ↦ subst (λ p. Contains before (Sent to v p)) (sym same) (c.sent to before_next due)
          | inr later ↦
              let known = joined_below net ok g to near in
              let less : send_key (length path) to v < key net e = precedes_less net (Sent to v path) e (lo, low) small r in
              let len : length path ≡ length other = ap length same in
              absurd (clear (omega (arith, known, later), omega (arith, less, len, later)))
        ]

    pub judged_may : MayFollow net g before e
    judged_may = record {
      in_place = λ x h. let l = a.below x h in let m = j.in_place in less_precedes net x e (a.small x h) small (omega (arith, l, m));
      sound = sound e small j.allowed;
      started = starts e j.started;
      signed = λ v path s r. let low = learns_small v s.picked s.learns in signs v path (state v) low (a.each v low) (λ t. j.clear (v, low, t)) s r;
      sent = λ to v path h near out r.
          let low : v < 16 = a.small (Signed v path) h in
          let known = joined_below net ok g to near in
          let few = ok.ranges.few_generals in
          sends to v path (state v) low (omega (arith, known, few)) (a.each v low) (λ t. j.clear (v, low, t)) h near out r;
    }

  -- ---- what may follow is judged well
  module _ (m : MayFollow net g before e) where
    placed : (k : ℕ) → least ≡ k → k ≤ key net e
    placed zero q = omega arith
    placed (suc k) q =
        let l = a.last k q in
        let x = l.0 in
        let less = precedes_less net x e (a.small x l.1) small (m.in_place x l.1) in
        omega (arith, less, l.2)

    after_start : Precedes (0 ∷ []) (place net e) → 0 < least
    after_start r = let s = m.started r in let b = a.below (Started g s.0) s.1 in omega (arith, b)

    behind_start : (l : ℕ) (more : List ℕ) (k : ℕ) → Precedes (0 ∷ []) (l ∷ k ∷ more)
    behind_start zero more k = inr (refl, tt)
    behind_start (suc l) more k = inl (omega arith)

    has_started : (x : LogEntry) → place net x ≡ place net e → HasStarted least x
    has_started (Started general own) q = tt
    has_started (Signed v path) q = after_start (subst (λ p. Precedes (0 ∷ []) p) q (behind_start (length path) (v ∷ []) 0))
    has_started (Sent to v path) q = after_start (subst (λ p. Precedes (0 ∷ []) p) q (behind_start (length path) (to ∷ v ∷ []) 1))
    has_started (Received from v path) q = after_start (subst (λ p. Precedes (0 ∷ []) p) q (behind_start (length path) (from ∷ v ∷ []) 2))
    has_started (Decided set order) q = after_start (subst (λ p. Precedes (0 ∷ []) p) q (inl (omega arith)))

    clears : (v : ℕ) (s : Progress) → v < 16 → HasCome net g before v s → Stops net v s (key net e) → ⊥
    clears v Unlearnt low c h = h
    clears v (Learnt round) low c h =
        let path = c.path ++ g ∷ [] in
        let len : length path ≡ round + 1 = omega (arith, c.len, length-append c.path (g ∷ [])) in
        let below : round < rounds net = h.0 in
        let due : IsToSign net g before v path = record { picked = c.path; learns = c.learns; shortest = λ other o. let l = c.first other o in omega (arith, l, c.len); in_time = omega (arith, c.len, below); longer = refl } in
        let less : sign_key (length path) v < key net e = subst (λ n. sign_key n v < key net e) (sym len) h.1 in
        let s = m.signed v path due (less_precedes net (Signed v path) e low small less) in
        c.not_yet.unsigned s.0 s.1
    clears v (Relayed path next) low c h =
        let d = c.due h.0 in
        let few = ok.ranges.few_generals in
        let known : next < net.generals = h.0 in
        let s = m.sent next v path c.signed d.0 d.1 (less_precedes net (Sent next v path) e (omega (arith, known, few), low) small h.1) in
        let l = c.unsent next path s in
        omega (arith, l)

    can_sign : (v : ℕ) (path : List ℕ) (s : Progress) → place net (Signed v path) ≡ place net e → HasCome net g before v s → IsToSign net g before v path → CanSign net g before v s path
    can_sign v path Unlearnt q c t = c.unknown t.picked t.learns
    can_sign v path (Learnt round) q c t =
        let r = round_is v round c path t in
        let below = t.in_time in
        (omega (arith, r, below), (t.picked, t.longer, r, how t.picked t.learns))
      where
        how : (picked : List ℕ) → Learns g before v picked → (picked ≡ []) ⊎ ((from : ℕ) × Contains before (Received from v picked))
        how picked (inl h) = inl h.1
        how picked (inr h) = inr h
    can_sign v path (Relayed other next) q c t =
        let l = c.first t.picked t.learns in
        let k = t.shortest c.known c.learns in
        let len : length other ≡ length path = omega (arith, l, k, c.len, signed_length v path t) in
        let p : place net (Signed v other) ≡ place net (Signed v path) = ap (λ n. n ∷ 0 ∷ v ∷ []) len in
        not_itself net (Signed v other) e (p ∙ q) (m.in_place (Signed v other) c.signed)

    can_send : (to v : ℕ) (path : List ℕ) (s : Progress) → place net (Sent to v path) ≡ place net e → HasCome net g before v s → Contains before (Signed v path) → AreNeighbours net g to → (Contains path to → ⊥) → CanSend net s to path
    can_send to v path Unlearnt q c h near out = c.not_yet.unsigned path h
    can_send to v path (Learnt round) q c h near out = c.not_yet.unsigned path h
    can_send to v path (Relayed other next) q c h near out =
        let same : path ≡ other = c.only path h in
        let known = joined_below net ok g to near in
        let due : IsDueTo net g other to = subst (λ p. IsDueTo net g p to) same (near, out) in
        let next_is : next ≡ to = elim (cases_lt to next) [
          | inl early ↦
              let x = c.sent to early due in
              let p : place net (Sent to v other) ≡ place net (Sent to v path) = ap (λ l. length l ∷ 1 ∷ to ∷ v ∷ []) (sym same) in
              absurd (not_itself net (Sent to v other) e (p ∙ q) (m.in_place (Sent to v other) x))
          | inr late ↦ elim (cases_eq next to) [
            | inl e' ↦ e'
            | inr ne ↦
                let d = c.due (omega (arith, known, late)) in
                let p : place net (Sent to v other) ≡ place net e = ap (λ l. length l ∷ 1 ∷ to ∷ v ∷ []) (sym same) ∙ q in
                let r : Precedes (place net (Sent next v other)) (place net (Sent to v other)) = inr (refl, inr (refl, inl (omega (arith, late, ne)))) in
                let x = m.sent next v other c.signed d.0 d.1 (subst (λ w. Precedes (place net (Sent next v other)) w) p r) in
                let l = c.unsent next other x in
                absurd (omega (arith, l))
          ]
        ] in
        (known, next_is, sym same)

    allowed : (x : LogEntry) → IsSmall x → place net x ≡ place net e → IsSound net g before x → IsAllowed net g before orders x
    allowed (Started general own) s q h = h
    allowed (Signed v path) s q h = can_sign v path (state v) q (a.each v s) h
    allowed (Sent to v path) s q h = can_send to v path (state v) q (a.each v s.1) h.0 h.1 h.2
    allowed (Received from v path) s q h = h
    allowed (Decided set order) s q h = (list_of_same (λ v. (path : List ℕ) × Learns g before v path) (λ v. (v < 16) × IsKnown (state v)) (λ v. let r = same_known v in (r.1, r.0)) set h.0, h.1)

    pub may_judged : IsJudged net g before least orders e
    may_judged = record {
      in_place = placed least refl;
      started = has_started e refl;
      clear = λ h. clears h.0 (state h.0) h.1 (a.each h.0 h.1) h.2;
      allowed = allowed e small refl m.sound;
    }

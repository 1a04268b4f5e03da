-- Which entry of a lieutenant comes next, said by his RECVs alone, and that this is what may follow.
use Rattle.std.proofs.Common.{◌≡◌, ◌≢◌, ℕ, ◌+◌, ◌<◌, ◌≤◌, inl, inr, List, [], ◌∷◌, ◌++◌, length, Contains, Option, Some, None, refl, sym, ap, subst, arith, length-append}
use Rattle.std.proofs.lemmas.List.Elements.{Contains-append_left}
use Rattle.gen_types.specs.Ascending.{IsListOf}
use Rattle.gen_types.proofs.Lists.{split}
use Rattle.gen_net.specs.Network.{Network, rounds, choose, AreNeighbours}
use Rattle.gen_net.specs.Run.{IsWellFormed}
use Rattle.gen_net.specs.Log.{LogEntry, Started, Signed, Sent, Received, Decided, place, Precedes}
use Rattle.gen_local.specs.Following.{Learns, IsToSign, IsOwn, IsSound, MayFollow, GoesOn}
use Rattle.gen_core.proofs.OrderedLists.{list_of_same}

-- a RECV of this order and path is among the entries
abbrev pub HasRecv : List LogEntry → ℕ → List ℕ → Type 0
HasRecv entries v path = (from : ℕ) × Contains entries (Received from v path)

-- the first RECV of this order is of round l
pub record NewIn (entries : List LogEntry) (l v : ℕ) : Type 0 where
  pub path : List ℕ
  pub received : HasRecv entries v path
  pub round : length path ≡ l
  pub first : (other : List ℕ) → HasRecv entries v other → l ≤ length other

abbrev pub IsSoundNext : Network → ℕ → List LogEntry → LogEntry → Type 0
IsSoundNext net g before (Started general own) = (general ≡ g) × (own ≡ None)
IsSoundNext net g before (Signed order path) = (l : ℕ) × (l < rounds net) × NewIn before l order × ((picked : List ℕ) × HasRecv before order picked × (length picked ≡ l) × (path ≡ picked ++ g ∷ []))
IsSoundNext net g before (Sent to order path) = Contains before (Signed order path) × AreNeighbours net g to × (Contains path to → ⊥)
IsSoundNext net g before (Received from order path) = IsWellFormed net (record { from = from; to = g; order = order; path = path })
IsSoundNext net g before (Decided orders order) = IsListOf orders (λ v. (path : List ℕ) × HasRecv before v path) × (order ≡ choose net orders)

pub record IsNext (net : Network) (g : ℕ) (before : List LogEntry) (e : LogEntry) : Type 0 where
  pub in_place : (x : LogEntry) → Contains before x → Precedes (place net x) (place net e)
  pub sound : IsSoundNext net g before e
  pub started : Precedes (0 ∷ []) (place net e) → Contains before (Started g None)
  pub signed : (l v : ℕ) → NewIn before l v → l < rounds net → Precedes ((l + 1) ∷ 0 ∷ v ∷ []) (place net e) → (path : List ℕ) × Contains before (Signed v path)
  pub sent : (to v : ℕ) (path : List ℕ) → Contains before (Signed v path) → AreNeighbours net g to → (Contains path to → ⊥) → Precedes (length path ∷ 1 ∷ to ∷ v ∷ []) (place net e) → Contains before (Sent to v path)

abbrev pub GoesOnNext : Network → ℕ → List LogEntry → Type 0
GoesOnNext net g entries = (before after : List LogEntry) (e : LogEntry) → entries ≡ before ++ e ∷ after → IsNext net g before e

own_none : (net : Network) (g : ℕ) (own : Option ℕ) → g ≢ 0 → IsOwn net g own → own ≡ None
own_none net g None ng h = refl
own_none net g (Some v) ng h = absurd (ng h.0)

-- of entries in which no START has an order
module _ (net : Network) (g : ℕ) (ng : g ≢ 0) (before : List LogEntry) (ownless : (general : ℕ) (own : Option ℕ) → Contains before (Started general own) → own ≡ None) where
  pub learns_recv : (v : ℕ) (path : List ℕ) → Learns g before v path → HasRecv before v path
  learns_recv v path (inl h) = let q : Some v ≡ None = ownless g (Some v) h.0 in cc
  learns_recv v path (inr h) = h

  same_learns : (v : ℕ) → ((path : List ℕ) × Learns g before v path → (path : List ℕ) × HasRecv before v path) × ((path : List ℕ) × HasRecv before v path → (path : List ℕ) × Learns g before v path)
  same_learns v = ((λ h. (h.0, learns_recv v h.0 h.1)), (λ h. (h.0, inr h.1)))

  to_sign_of_new : (l v : ℕ) (n : NewIn before l v) → l < rounds net → (picked path : List ℕ) → HasRecv before v picked → length picked ≡ l → path ≡ picked ++ g ∷ [] → IsToSign net g before v path
  to_sign_of_new l v n below picked path h len q = record {
    picked = picked;
    learns = inr h;
    shortest = λ other o. let r = n.first other (learns_recv v other o) in omega arith;
    in_time = omega arith;
    longer = q;
  }

  new_of_to_sign : (v : ℕ) (path : List ℕ) (s : IsToSign net g before v path) → NewIn before (length s.picked) v
  new_of_to_sign v path s = record {
    path = s.picked;
    received = learns_recv v s.picked s.learns;
    round = refl;
    first = λ other o. s.shortest other (inr o);
  }

  sound_next : (e : LogEntry) → IsSound net g before e → IsSoundNext net g before e
  sound_next (Started general own) h = (h.0, own_none net g own ng h.1)
  sound_next (Signed order path) h = (length h.picked, h.in_time, new_of_to_sign order path h, (h.picked, learns_recv order h.picked h.learns, refl, h.longer))
  sound_next (Sent to order path) h = h
  sound_next (Received from order path) h = h
  sound_next (Decided orders order) h = (list_of_same (λ v. (path : List ℕ) × Learns g before v path) (λ v. (path : List ℕ) × HasRecv before v path) same_learns orders h.0, h.1)

  next_sound : (e : LogEntry) → IsSoundNext net g before e → IsSound net g before e
  next_sound (Started general own) h = (h.0, subst (IsOwn net g) (sym h.1) ng)
  next_sound (Signed order path) h = to_sign_of_new h.0 order h.2 h.1 h.3.0 path h.3.1 h.3.2 h.3.3
  next_sound (Sent to order path) h = h
  next_sound (Received from order path) h = h
  next_sound (Decided orders order) h = (list_of_same (λ v. (path : List ℕ) × HasRecv before v path) (λ v. (path : List ℕ) × Learns g before v path) (λ v. let s = same_learns v in (s.1, s.0)) orders h.0, h.1)

  next_of_may : (e : LogEntry) → MayFollow net g before e → IsNext net g before e
  next_of_may e m = record {
    in_place = m.in_place;
    sound = sound_next e m.sound;
    started = λ r. let s = m.started r in subst (λ o. Contains before (Started g o)) (ownless g s.0 s.1) s.1;
    signed = λ l v n below r.
        let len : length (n.path ++ g ∷ []) ≡ l + 1 = omega (arith, n.round, length-append n.path (g ∷ [])) in
        m.signed v (n.path ++ g ∷ []) (to_sign_of_new l v n below n.path (n.path ++ g ∷ []) n.received n.round refl) (rw len r);
    sent = m.sent;
  }

  may_of_next : (e : LogEntry) → IsNext net g before e → MayFollow net g before e
  may_of_next e m = record {
    in_place = m.in_place;
    sound = next_sound e m.sound;
    started = λ r. (None, m.started r);
    signed = λ v path s r.
        let len : length path ≡ length s.picked + 1 = omega (arith, ap length s.longer, length-append s.picked (g ∷ [])) in
        m.signed (length s.picked) v (new_of_to_sign v path s) s.in_time (subst (λ n. Precedes (n ∷ 0 ∷ v ∷ []) (place net e)) len r);
    sent = m.sent;
  }

-- what stands in a front of the entries
in_whole : (es before after : List LogEntry) (e x : LogEntry) → es ≡ before ++ e ∷ after → Contains before x → Contains es x
in_whole es before after e x q h = subst (λ l. Contains l x) (sym q) (Contains-append_left before (e ∷ after) x h)

pub next_of_goes_on : (net : Network) (g : ℕ) → g ≢ 0 → (es : List LogEntry) → GoesOn net g es → GoesOnNext net g es
next_of_goes_on net g ng es go before after e q =
    next_of_may net g ng before (λ general own h.
    let s = split es (Started general own) (in_whole es before after e (Started general own) q h) in
    own_none net g own ng (go s.0 s.1 (Started general own) s.2).sound.1) e (go before after e q)

pub goes_on_of_next : (net : Network) (g : ℕ) → g ≢ 0 → (es : List LogEntry) → GoesOnNext net g es → GoesOn net g es
goes_on_of_next net g ng es go before after e q =
    may_of_next net g ng before (λ general own h.
    let s = split es (Started general own) (in_whole es before after e (Started general own) q h) in
    (go s.0 s.1 (Started general own) s.2).sound.1) e (go before after e q)

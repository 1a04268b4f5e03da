-- While an act is left, some act moves: of a blocked act the general at the other end of the queue has a lesser one.
use Rattle.std.proofs.Common.{◌≡◌, ℕ, zero, suc, ◌+◌, ◌*◌, ◌<◌, ◌≤◌, inl, inr, Bool, true, false, ltb, List, [], ◌∷◌, Contains, find, Option, Some, None, IfSome, refl, ap, subst, arith}
use Rattle.std.specs.List.{range_with_len}
use Rattle.std.proofs.lemmas.Bool.{cases_Bool, ltb-false}
use Rattle.gen_types.proofs.Lists.{Contains_here, Contains_there, Contains_cases, Contains_nil, Contains_range, Contains_in_range}
use Rattle.gen_net.specs.Network.{Network, IsNetwork, AreNeighbours}
use Rattle.gen_net.proofs.Neighbours.{joined_below}
use Rattle.gen_async.specs.declared.acts.Act.{Act}
use Rattle.gen_async.specs.declared.acts.Act.TheVariants.{Puts, Takes}
use Rattle.gen_async.specs.Machine.{next_act, queued, answer, answer_to, has_moved, mover}
use Rattle.gen_async.specs.Laws.{IsMachine, IsAtPut, IsAtTake, AllDone, MoverNames, MoverLaw}
use Rattle.gen_async.proofs.Where.{stands_at_put, stands_at_take, stands_at_end}

find_some : (p : ℕ → Bool) (xs : List ℕ) (x : ℕ) → find p xs ≡ Some x → Contains xs x × (p x ≡ true)
find_some p [] x e = absurd (cc)
find_some p (y ∷ ys) x e = elim (cases_Bool (p y)) [
  | inl h ↦ let s : Some y ≡ Some x = rw h at e in let same : y ≡ x = cc in (subst (λ z. Contains (y ∷ ys) z) same (Contains_here y ys), subst (λ z. p z ≡ true) same h)
  | inr h ↦ let r = find_some p ys x (rw h at e) in (Contains_there y x ys r.0, r.1)
]

find_none : (p : ℕ → Bool) (xs : List ℕ) → find p xs ≡ None → (x : ℕ) → Contains xs x → p x ≡ false
find_none p [] e x h = absurd (Contains_nil x h)
find_none p (y ∷ ys) e x h = elim (cases_Bool (p y)) [
  | inl t ↦ let s : Some y ≡ None = rw t at e in absurd (cc)
  | inr f ↦ elim (Contains_cases y x ys h) [
    | inl same ↦ subst (λ z. p z ≡ false) same f
    | inr k ↦ find_none p ys (rw f at e) x k
  ]
]

-- the order of acts: by rounds, a put before a take
rank : Act → ℕ
rank (Puts l h) = 2 * l
rank (Takes l h) = 2 * l + 1

pub full : (net : Network) (capacity : ℕ) (progress : List ℕ) (g l h : ℕ) → next_act net progress g ≡ Some (Puts l h) → has_moved (answer net capacity progress g) ≡ false → capacity ≤ queued net progress g h
unfolding answer
full net capacity progress g l h next stays =
    let s : has_moved (answer_to net capacity progress g (Some (Puts l h))) ≡ false = subst (λ a. has_moved (answer_to net capacity progress g a) ≡ false) next stays in
    elim (cases_Bool (ltb (queued net progress g h) capacity)) [
      | inl e ↦ let t : true ≡ false = rw e at s in absurd (cc)
      | inr e ↦ ltb-false (queued net progress g h) capacity e
    ]

pub empty : (net : Network) (capacity : ℕ) (progress : List ℕ) (g l h : ℕ) → next_act net progress g ≡ Some (Takes l h) → has_moved (answer net capacity progress g) ≡ false → queued net progress h g ≤ 0
unfolding answer
empty net capacity progress g l h next stays =
    let s : has_moved (answer_to net capacity progress g (Some (Takes l h))) ≡ false = subst (λ a. has_moved (answer_to net capacity progress g a) ≡ false) next stays in
    elim (cases_Bool (ltb 0 (queued net progress h g))) [
      | inl e ↦ let t : true ≡ false = rw e at s in absurd (cc)
      | inr e ↦ ltb-false 0 (queued net progress h g) e
    ]

pub done_stays : (net : Network) (capacity : ℕ) (progress : List ℕ) (g : ℕ) → next_act net progress g ≡ None → has_moved (answer net capacity progress g) ≡ false
unfolding answer
done_stays net capacity progress g next = ap (λ a. has_moved (answer_to net capacity progress g a)) next

turned : (net : Network) (a b : ℕ) → AreNeighbours net a b → AreNeighbours net b a
turned net a b (inl h) = inr h
turned net a b (inr h) = inl h

module _ (net : Network) (ok : IsNetwork net) (capacity : ℕ) (some_room : 1 ≤ capacity) (progress : List ℕ) (m : IsMachine net capacity progress) where
  -- the other end of the queue of a blocked put has a lesser next act
  lesser_than_put : (g l h : ℕ) → IsAtPut net progress g l h → capacity ≤ queued net progress g h → (next : Option Act) → next_act net progress h ≡ next → (act : Act) × (next ≡ Some act) × (rank act < 2 * l)
  unfolding rank
  lesser_than_put g l h at_put is_full None e =
      let w = stands_at_end net ok progress h e in
      absurd (omega (arith, at_put.here, at_put.last, w.took g (turned net g h at_put.joined)))
  lesser_than_put g l h at_put is_full (Some (Puts r y)) e =
      let w = stands_at_put net ok progress h r y e in
      (Puts r y, refl, omega (arith, at_put.here, w.took g (turned net g h at_put.joined)))
  lesser_than_put g l h at_put is_full (Some (Takes r y)) e =
      let w = stands_at_take net ok progress h r y e in
      (Takes r y, refl, omega (arith, at_put.here, (w.others g (turned net g h at_put.joined)).0))

  lesser_than_take : (g l h : ℕ) → IsAtTake net progress g l h → queued net progress h g ≤ 0 → (next : Option Act) → next_act net progress h ≡ next → (act : Act) × (next ≡ Some act) × (rank act < 2 * l + 1)
  unfolding rank
  lesser_than_take g l h at_take is_empty None e =
      let w = stands_at_end net ok progress h e in
      absurd (omega (arith, at_take.here, at_take.last, w.gave g (turned net g h at_take.joined)))
  lesser_than_take g l h at_take is_empty (Some (Puts r y)) e =
      let w = stands_at_put net ok progress h r y e in
      (Puts r y, refl, omega (arith, at_take.here, (w.others g (turned net g h at_take.joined)).0))
  lesser_than_take g l h at_take is_empty (Some (Takes r y)) e =
      let w = stands_at_take net ok progress h r y e in
      (Takes r y, refl, omega (arith, at_take.here, w.gave g (turned net g h at_take.joined)))

  lesser : (g : ℕ) (act : Act) → next_act net progress g ≡ Some act → has_moved (answer net capacity progress g) ≡ false → (h : ℕ) × (h < net.generals) × (other : Act) × (next_act net progress h ≡ Some other) × (rank other < rank act)
  unfolding rank
  lesser g (Puts l h) next stays =
      let at_put = stands_at_put net ok progress g l h next in
      let r = lesser_than_put g l h at_put (full net capacity progress g l h next stays) (next_act net progress h) refl in
      (h, joined_below net ok g h at_put.joined, r.0, r.1, r.2)
  lesser g (Takes l h) next stays =
      let at_take = stands_at_take net ok progress g l h next in
      let r = lesser_than_take g l h at_take (empty net capacity progress g l h next stays) (next_act net progress h) refl in
      (h, joined_below net ok g h at_take.joined, r.0, r.1, r.2)

  some_mover : (bound g : ℕ) (act : Act) → g < net.generals → next_act net progress g ≡ Some act → rank act < bound → (x : ℕ) × (x < net.generals) × (has_moved (answer net capacity progress x) ≡ true)
  some_mover zero g act below next short = absurd (omega arith)
  some_mover (suc bound) g act below next short = elim (cases_Bool (has_moved (answer net capacity progress g))) [
    | inl e ↦ (g, below, e)
    | inr e ↦ let r = lesser g act next e in some_mover bound r.0 r.2 r.1 r.3 (omega (arith, r.4))
  ]

  test : ℕ → Bool
  test g = has_moved (answer net capacity progress g)

  none_left : mover net capacity progress ≡ None → (g : ℕ) → g < net.generals → (next : Option Act) → next_act net progress g ≡ next → next ≡ None
  unfolding mover
  none_left none g below None e = refl
  none_left none g below (Some act) e =
      let r = some_mover (suc (rank act)) g act below e (omega arith) in
      let f : has_moved (answer net capacity progress r.0) ≡ false = find_none (λ x. has_moved (answer net capacity progress x)) (range_with_len 0 net.generals) none r.0 (Contains_in_range 0 net.generals r.0 (omega arith) (omega (arith, r.1))) in
      let t : has_moved (answer net capacity progress r.0) ≡ true = r.2 in
      absurd (cc)

  named_moves : (named : Option ℕ) → mover net capacity progress ≡ named → IfSome named (λ g. (g < net.generals) × (has_moved (answer net capacity progress g) ≡ true))
  unfolding mover
  named_moves None e = tt
  named_moves (Some g) e =
      let r = find_some (λ x. has_moved (answer net capacity progress x)) (range_with_len 0 net.generals) g e in
      (omega (arith, (Contains_range 0 net.generals g r.0).1), r.1)

  no_name : AllDone net progress → (named : Option ℕ) → mover net capacity progress ≡ named → named ≡ None
  no_name all None e = refl
  no_name all (Some g) e =
      let r = named_moves (Some g) e in
      let f : has_moved (answer net capacity progress g) ≡ false = done_stays net capacity progress g (all g r.0) in
      let t : has_moved (answer net capacity progress g) ≡ true = r.1 in
      absurd (cc)

  pub names : MoverNames net capacity progress (mover net capacity progress)
  names = record {
    moves = named_moves (mover net capacity progress) refl;
    done = ((λ none g below. none_left none g below (next_act net progress g) refl), λ all. no_name all (mover net capacity progress) refl);
  }

pub mover_law : MoverLaw
mover_law net capacity progress ok some_room m = names net ok capacity some_room progress m

-- One attempt: what it changes, and that the queues stay within their bounds.
use Rattle.std.proofs.Common.{◌≡◌, ℕ, zero, suc, ◌+◌, ◌<◌, ◌≤◌, ◌⊎◌, inl, inr, Bool, true, false, cond, ◌==◌, ltb, List, [], ◌∷◌, ◌++◌, length, take, count_by, slice_get, slice_index, slice_set, Option, Some, None, replicate, refl, sym, ap, subst, ◌∙◌, arith, add-one}
use Rattle.std.proofs.lemmas.Bool.{cases_eq, cases_Bool, ltb-true, eqb-true}
use Rattle.std.proofs.lemmas.List.{get_or-set_same, get_or-set_other, length-set, length-replicate}
use Rattle.std.proofs.lemmas.List.Sums.{sum_by_push}
use Rattle.std.proofs.lemmas.List.Elements.{All-head, All-tail}
use Rattle.gen_net.specs.Network.{Network}
use Rattle.gen_async.specs.declared.acts.Act.{Act}
use Rattle.gen_async.specs.declared.acts.Act.TheVariants.{Puts, Takes}
use Rattle.gen_async.specs.Acts.{acts_of, is_put_to, is_take_from}
use Rattle.gen_async.specs.Machine.{at_start, moved_acts, next_act, put, taken, queued, answer, answer_to, has_moved, step, after}
use Rattle.gen_async.specs.Laws.{IsMachine, AreActs, QueueLaw}
use Rattle.gen_async.proofs.Lists.{get_below}

pub take_next : {X : Type 0} (xs : List X) (k : ℕ) (x : X) → slice_get xs k ≡ Some x → take (suc k) xs ≡ take k xs ++ x ∷ []
take_next [] k x e = absurd (cc)
take_next (y ∷ ys) zero x e = let same : y ≡ x = cc in ap (λ z. z ∷ []) same
take_next (y ∷ ys) (suc k) x e = ap (λ zs. y ∷ zs) (take_next ys k x e)

-- the progress after an act of g has moved
abbrev pub one_on : List ℕ → ℕ → List ℕ
one_on progress g = slice_set progress g (slice_index progress g + 1)

pub moved_here : (net : Network) (progress : List ℕ) (g : ℕ) (act : Act) → g < length progress → next_act net progress g ≡ Some act → moved_acts net (one_on progress g) g ≡ moved_acts net progress g ++ act ∷ []
unfolding moved_acts next_act
moved_here net progress g act inside e =
    let k = slice_index progress g in
    let there : slice_index (one_on progress g) g ≡ suc k = get_or-set_same progress g (k + 1) 0 inside ∙ add-one k in
    ap (λ i. take i (acts_of net g)) there ∙ take_next (acts_of net g) k act e

pub moved_there : (net : Network) (progress : List ℕ) (g a : ℕ) → (a ≡ g → ⊥) → moved_acts net (one_on progress g) a ≡ moved_acts net progress a
unfolding moved_acts
moved_there net progress g a apart = ap (λ i. take i (acts_of net a)) (get_or-set_other progress g a (slice_index progress g + 1) 0 apart)

-- The act may move: the queue of a put isn't full, that of a take isn't empty.
abbrev pub IsFree : Network → ℕ → List ℕ → ℕ → Act → Type 0
IsFree net capacity progress g (Puts l h) = queued net progress g h < capacity
IsFree net capacity progress g (Takes l h) = 0 < queued net progress h g

-- an attempt moves an act that may move, or changes nothing
pub record Moves (net : Network) (capacity : ℕ) (progress : List ℕ) (g : ℕ) : Type 0 where
  pub act : Act
  pub next : next_act net progress g ≡ Some act
  pub free : IsFree net capacity progress g act
  pub moved : has_moved (answer net capacity progress g) ≡ true
  pub stepped : step net capacity progress g ≡ one_on progress g

pub record Stays (net : Network) (capacity : ℕ) (progress : List ℕ) (g : ℕ) : Type 0 where
  pub unmoved : has_moved (answer net capacity progress g) ≡ false
  pub stayed : step net capacity progress g ≡ progress

free_from : (net : Network) (capacity : ℕ) (progress : List ℕ) (g : ℕ) (next : Option Act) → has_moved (answer_to net capacity progress g next) ≡ true → (act : Act) × (next ≡ Some act) × IsFree net capacity progress g act
free_from net capacity progress g None h = absurd (cc)
free_from net capacity progress g (Some (Puts l h)) m = elim (cases_Bool (ltb (queued net progress g h) capacity)) [
  | inl e ↦ (Puts l h, refl, ltb-true (queued net progress g h) capacity e)
  | inr e ↦ let s : false ≡ true = rw e at m in absurd (cc)
]
free_from net capacity progress g (Some (Takes l h)) m = elim (cases_Bool (ltb 0 (queued net progress h g))) [
  | inl e ↦ (Takes l h, refl, ltb-true 0 (queued net progress h g) e)
  | inr e ↦ let s : false ≡ true = rw e at m in absurd (cc)
]

pub moves_or_stays : (net : Network) (capacity : ℕ) (progress : List ℕ) (g : ℕ) → Moves net capacity progress g ⊎ Stays net capacity progress g
unfolding step answer
moves_or_stays net capacity progress g = elim (cases_Bool (has_moved (answer_to net capacity progress g (next_act net progress g)))) [
  | inl e ↦ let f = free_from net capacity progress g (next_act net progress g) e in inl (record { act = f.0; next = f.1; free = f.2; moved = e; stepped = rw e refl })
  | inr e ↦ inr (record { unmoved = e; stayed = rw e refl })
]

module _ (net : Network) (progress : List ℕ) (g : ℕ) (inside : g < length progress) where
  pub count_after : (act : Act) → next_act net progress g ≡ Some act → (p : Act → Bool) (a : ℕ) → ((a ≡ g) × (count_by p (moved_acts net (one_on progress g) a) ≡ count_by p (moved_acts net progress a) + cond (p act) 1 0)) ⊎ ((a ≡ g → ⊥) × (count_by p (moved_acts net (one_on progress g) a) ≡ count_by p (moved_acts net progress a)))
  count_after act next p a = elim (cases_eq a g) [
    | inl e ↦
        let here : count_by p (moved_acts net (one_on progress g) g) ≡ count_by p (moved_acts net progress g) + cond (p act) 1 0 = ap (count_by p) (moved_here net progress g act inside next) ∙ sum_by_push (λ x. cond (p x) 1 0) (moved_acts net progress g) act in
        inl (e, subst (λ x. count_by p (moved_acts net (one_on progress g) x) ≡ count_by p (moved_acts net progress x) + cond (p act) 1 0) (sym e) here)
    | inr ne ↦ inr (ne, ap (count_by p) (moved_there net progress g a ne))
  ]

  -- a put counts on its own queue alone, and so does a take
  pub put_after_put : (l h : ℕ) → next_act net progress g ≡ Some (Puts l h) → (a b : ℕ) → ((a ≡ g) × (b ≡ h) × (put net (one_on progress g) a b ≡ put net progress a b + 1)) ⊎ (put net (one_on progress g) a b ≡ put net progress a b)
  unfolding put
  put_after_put l h next a b = elim (count_after (Puts l h) next (is_put_to b) a) [
    | inr same ↦ inr same.1
    | inl s ↦ elim (cases_Bool (h == b)) [
      | inl e ↦ let q : h ≡ b = eqb-true h b e in inl (s.0, sym q, rw e at s.1)
      | inr e ↦ let r : count_by (is_put_to b) (moved_acts net (one_on progress g) a) ≡ count_by (is_put_to b) (moved_acts net progress a) + 0 = rw e at s.1 in inr (omega arith)
    ]
  ]

  pub taken_after_put : (l h : ℕ) → next_act net progress g ≡ Some (Puts l h) → (a b : ℕ) → taken net (one_on progress g) a b ≡ taken net progress a b
  unfolding taken
  taken_after_put l h next a b = elim (count_after (Puts l h) next (is_take_from a) b) [
    | inr same ↦ same.1
    | inl s ↦ omega (arith, s.1)
  ]

  pub taken_after_take : (l h : ℕ) → next_act net progress g ≡ Some (Takes l h) → (a b : ℕ) → ((a ≡ h) × (b ≡ g) × (taken net (one_on progress g) a b ≡ taken net progress a b + 1)) ⊎ (taken net (one_on progress g) a b ≡ taken net progress a b)
  unfolding taken
  taken_after_take l h next a b = elim (count_after (Takes l h) next (is_take_from a) b) [
    | inr same ↦ inr same.1
    | inl s ↦ elim (cases_Bool (h == a)) [
      | inl e ↦ let q : h ≡ a = eqb-true h a e in inl (sym q, s.0, rw e at s.1)
      | inr e ↦ let r : count_by (is_take_from a) (moved_acts net (one_on progress g) b) ≡ count_by (is_take_from a) (moved_acts net progress b) + 0 = rw e at s.1 in inr (omega arith)
    ]
  ]

  pub put_after_take : (l h : ℕ) → next_act net progress g ≡ Some (Takes l h) → (a b : ℕ) → put net (one_on progress g) a b ≡ put net progress a b
  unfolding put
  put_after_take l h next a b = elim (count_after (Takes l h) next (is_put_to b) a) [
    | inr same ↦ same.1
    | inl s ↦ omega (arith, s.1)
  ]

  within_after : (act : Act) → next_act net progress g ≡ Some act → ((a : ℕ) → slice_index progress a ≤ length (acts_of net a)) → (a : ℕ) → slice_index (one_on progress g) a ≤ length (acts_of net a)
  unfolding next_act
  within_after act next within a = elim (cases_eq a g) [
    | inl e ↦
        let here : slice_index (one_on progress g) g ≡ slice_index progress g + 1 = get_or-set_same progress g (slice_index progress g + 1) 0 inside in
        let below : slice_index progress g < length (acts_of net g) = get_below (acts_of net g) (slice_index progress g) act next in
        subst (λ x. slice_index (one_on progress g) x ≤ length (acts_of net x)) (sym e) (omega arith)
    | inr ne ↦ let same : slice_index (one_on progress g) a ≡ slice_index progress a = get_or-set_other progress g a (slice_index progress g + 1) 0 ne in omega (arith, within a)
  ]

  pub machine_on : (capacity : ℕ) (act : Act) → next_act net progress g ≡ Some act → IsFree net capacity progress g act → IsMachine net capacity progress → IsMachine net capacity (one_on progress g)
  machine_on capacity (Puts l h) next free m = record {
    generals = length-set progress g (slice_index progress g + 1) ∙ m.generals;
    within = within_after (Puts l h) next m.within;
    not_below = λ a b. elim (put_after_put l h next a b) [
      | inl s ↦ omega (arith, s.2, taken_after_put l h next a b, m.not_below a b)
      | inr s ↦ omega (arith, s, taken_after_put l h next a b, m.not_below a b)
    ];
    fits = λ a b. elim (put_after_put l h next a b) [
      | inl s ↦
          let here : queued net progress a b < capacity = subst (λ x. queued net progress x b < capacity) (sym s.0) (subst (λ y. queued net progress g y < capacity) (sym s.1) free) in
          omega (arith, s.2, here, taken_after_put l h next a b, m.not_below a b)
      | inr s ↦ omega (arith, s, taken_after_put l h next a b, m.fits a b)
    ];
  }
  machine_on capacity (Takes l h) next free m = record {
    generals = length-set progress g (slice_index progress g + 1) ∙ m.generals;
    within = within_after (Takes l h) next m.within;
    not_below = λ a b. elim (taken_after_take l h next a b) [
      | inl s ↦
          let here : 0 < queued net progress a b = subst (λ x. 0 < queued net progress x b) (sym s.0) (subst (λ y. 0 < queued net progress h y) (sym s.1) free) in
          omega (arith, s.2, here, put_after_take l h next a b, m.not_below a b)
      | inr s ↦ omega (arith, s, put_after_take l h next a b, m.not_below a b)
    ];
    fits = λ a b. elim (taken_after_take l h next a b) [
      | inl s ↦ omega (arith, s.2, put_after_take l h next a b, m.fits a b)
      | inr s ↦ omega (arith, s, put_after_take l h next a b, m.fits a b)
    ];
  }

pub machine_step : (net : Network) (capacity : ℕ) (progress : List ℕ) (g : ℕ) → g < net.generals → IsMachine net capacity progress → IsMachine net capacity (step net capacity progress g)
machine_step net capacity progress g below m = elim (moves_or_stays net capacity progress g) [
  | inl s ↦ subst (λ z. IsMachine net capacity z) (sym s.stepped) (machine_on net progress g (omega (arith, m.generals)) capacity s.act s.next s.free m)
  | inr s ↦ subst (λ z. IsMachine net capacity z) (sym s.stayed) m
]

pub machine_after : (net : Network) (capacity : ℕ) (acts progress : List ℕ) → AreActs net acts → IsMachine net capacity progress → IsMachine net capacity (after net capacity progress acts)
machine_after net capacity [] progress all m = m
machine_after net capacity (g ∷ acts) progress all m = machine_after net capacity acts (step net capacity progress g) (All-tail (λ x. x < net.generals) g acts all) (machine_step net capacity progress g (All-head (λ x. x < net.generals) g acts all) m)

pub start_progress : (n g : ℕ) → slice_index (replicate n 0) g ≡ 0
start_progress zero g = refl
start_progress (suc n) zero = refl
start_progress (suc n) (suc g) = start_progress n g

pub none_moved : (net : Network) (g : ℕ) → moved_acts net (at_start net) g ≡ []
unfolding moved_acts
none_moved net g = ap (λ i. take i (acts_of net g)) (start_progress net.generals g)

pub none_put : (net : Network) (a b : ℕ) → put net (at_start net) a b ≡ 0
unfolding put
none_put net a b = ap (count_by (is_put_to b)) (none_moved net a)

pub none_taken : (net : Network) (a b : ℕ) → taken net (at_start net) a b ≡ 0
unfolding taken
none_taken net a b = ap (count_by (is_take_from a)) (none_moved net b)

pub machine_at_start : (net : Network) (capacity : ℕ) → IsMachine net capacity (at_start net)
machine_at_start net capacity = record {
  generals = length-replicate net.generals 0;
  within = λ g. omega (arith, start_progress net.generals g);
  not_below = λ a b. omega (arith, none_put net a b, none_taken net a b);
  fits = λ a b. omega (arith, none_put net a b, none_taken net a b);
}

pub queue_law : QueueLaw
queue_law net capacity acts ok all = machine_after net capacity acts (at_start net) all (machine_at_start net capacity)

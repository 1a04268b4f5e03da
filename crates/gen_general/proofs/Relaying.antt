-- Signing one order after another.
use Rattle.std.proofs.Common.{◌≡◌, ℕ, zero, suc, ◌-◌, true, List, [], ◌∷◌, ◌++◌, refl, sym, ap, subst, ◌∙◌, eqb, Some, None, Option, Contains, inl, inr, ◌⊎◌, ◌↔◌, All, ◌≤◌, ◌<◌, ◌+◌, arith, zero-add, add-one, map, filter, take, length, get_or, not}
use Rattle.std.specs.Prelude.{option_map, IsSome, IsNone, Result, Ok, Err, IfOk, OnOk}
use Rattle.std.specs.List.{range_with_len, flat_map}
use Rattle.std.proofs.lemmas.Bool.{eqb-true, eq-eqb}
use Rattle.std.proofs.lemmas.Grind.{flat_map-append}
use Rattle.std.proofs.lemmas.List.{append-nil, map-append, take_more}
use Rattle.std.proofs.lemmas.List.Elements.{All-contains, filter-append}
use Rattle.gen_types.specs.Members.{range_more}
use Rattle.gen_types.proofs.Among.{in_among, out_among}
use Rattle.gen_types.specs.Ends.{is_among}
use Rattle.gen_types.proofs.Lists.{Contains_here, Contains_there, Contains_nil, Contains_cases, Contains-middle, bool_cases, All_of}
use Rattle.gen_ots.specs.Secrets.{KeyName}
use Rattle.gen_net.specs.Header.{RunHeader, height_of}
use Rattle.gen_chain.specs.Chain.{Chain, chain_spelling, signed_path}
use Rattle.gen_chain.specs.Leaves.{leaf_of_order}
use Rattle.gen_chain.specs.Making.{begun, extended}
use Rattle.gen_scenario.specs.declared.heard.Heard.{Heard}
use Rattle.gen_scenario.specs.Heard.{round_of, first_of}
use Rattle.gen_scenario.specs.Signing.{Keys, signers_along, made, lengthened}
use Rattle.gen_scenario.specs.Frames.{outside_of, relayed, relays_in, signed_in}
use Rattle.gen_general.specs.Following.{round_signed, IsSignedWith}
use Rattle.gen_scenario.specs.Part.{own_keys}
use Rattle.gen_general.specs.Loops.Relays.{due_of, due_count, one_or_none, relayed_to, IsTakenTo}

-- ---- one signature

pub some_result : {X : Type 0} (r : Option X) → (IsNone r → ⊥) → IsSome r
some_result None never = absurd (never refl)
some_result (Some x) never = refl

-- a chain with one general's signature behind it, by the key of its order
pub one_behind : (h : RunHeader) (seed : List ℕ) (c : Chain) (me : ℕ) (key : KeyName) → key ≡ record { seed = seed; height = height_of h; leaf = leaf_of_order h c.order }
    → extended h c me key ≡ lengthened (own_keys h seed) c (me ∷ [])
unfolding signers_along
one_behind h seed c me key e = rw e refl

pub begun_alone : (h : RunHeader) (seed : List ℕ) (order : ℕ) (key : KeyName) → key ≡ record { seed = seed; height = height_of h; leaf = leaf_of_order h order }
    → begun h order key ≡ made (own_keys h seed) order (0 ∷ [])
unfolding signers_along
begun_alone h seed order key e = rw e refl

-- ---- the first of an order

-- it stands among what was heard, and has the order
pub first_stands : (order : ℕ) (xs : List Heard) (x : Heard) → first_of order xs ≡ Some x → Contains xs x × (x.chain.order ≡ order)
unfolding first_of
first_stands order [] x e = absurd cc
first_stands order (y ∷ xs) x e = elim (bool_cases (eqb y.chain.order order)) [
  | inl here ↦
      let some : Some y ≡ Some x = sym (rw here refl) ∙ e in
      let same : y ≡ x = cc in
      (subst (λ z. Contains (y ∷ xs) z) same (Contains_here y xs), ap (λ (z : Heard). z.chain.order) (sym same) ∙ eqb-true y.chain.order order here)
  | inr later ↦
      let there : first_of order xs ≡ Some x = rw later at e in
      let r = first_stands order xs x there in
      (Contains_there y x xs r.0, r.1)
]

-- more that is heard doesn't change it
pub first_front : (order : ℕ) (xs ys : List Heard) (x : Heard) → first_of order xs ≡ Some x → first_of order (xs ++ ys) ≡ Some x
unfolding first_of
first_front order [] ys x e = absurd cc
first_front order (y ∷ xs) ys x e = elim (bool_cases (eqb y.chain.order order)) [
  | inl here ↦ let some : Some y ≡ Some x = sym (rw here refl) ∙ e in rw here some
  | inr later ↦ let there : first_of order xs ≡ Some x = rw later at e in rw later (first_front order xs ys x there)
]

-- ---- what is due

due_cases : (round : ℕ) (x y : Heard) → due_of round (Some y) ≡ Some x → (y ≡ x) × (round_of x + 1 ≡ round)
due_cases round x y e = elim (bool_cases (eqb (round_of y + 1) round)) [
  | inl now ↦
      let some : Some y ≡ Some x = sym (rw now refl) ∙ e in
      let same : y ≡ x = cc in
      (same, ap (λ (z : Heard). round_of z + 1) (sym same) ∙ eqb-true (round_of y + 1) round now)
  | inr other ↦ let none : None ≡ Some x = sym (rw other refl) ∙ e in absurd cc
]

pub due_has : (round : ℕ) (f : Option Heard) (x : Heard) → due_of round f ≡ Some x → (f ≡ Some x) × (round_of x + 1 ≡ round)
due_has round None x e = absurd cc
due_has round (Some y) x e = let r = due_cases round x y e in (ap (λ z. Some z) r.0, r.1)

pub due_signed : (round : ℕ) (f : Option Heard) (x : Heard) → due_of round f ≡ Some x → option_map (λ y. round_of y + 1) f ≡ Some round
due_signed round f x e = let r = due_has round f x e in rw (r.0) (ap (λ n. Some n) r.1)

-- where nothing is due, nothing is signed
pub none_signed : (round : ℕ) (f : Option Heard) → due_of round f ≡ None → option_map (λ y. round_of y + 1) f ≡ Some round → ⊥
none_signed round None e s = absurd cc
none_signed round (Some y) e s =
    let same : round_of y + 1 ≡ round = cc in
    let now : eqb (round_of y + 1) round ≡ true = eq-eqb (round_of y + 1) round same in
    let some : Some y ≡ None = sym (rw now refl) ∙ e in
    absurd cc

-- ---- room

pub in_front : {X : Type 0} (xs ys : List X) (x : X) → Contains xs x → Contains (xs ++ ys) x
in_front [] ys x h = absurd (Contains_nil x h)
in_front (y ∷ xs) ys x h = elim (Contains_cases y x xs h) [
  | inl e ↦ subst (λ z. Contains (y ∷ xs ++ ys) z) e (Contains_here y (xs ++ ys))
  | inr t ↦ Contains_there y x (xs ++ ys) (in_front xs ys x t)
]

pub all_popped : {X : Type 0} (P : X → Type 0) (xs ys : List X) (x : X) → xs ≡ ys ++ x ∷ [] → All P xs → All P ys × P x
all_popped {X} P xs ys x e all = (
  All_of P ys (λ y h. All-contains P xs y all (subst (λ (zs : List X). Contains zs y) (sym e) (in_front ys (x ∷ []) y h))),
  All-contains P xs x all (subst (λ (zs : List X). Contains zs x) (sym e) (Contains-middle ys x [])),
)

-- of one order more
count_one : (round : ℕ) (heard : List Heard) (n : ℕ) → due_count round heard (suc n) ≡ due_count round heard n + one_or_none (due_of round (first_of n heard))
unfolding due_count
count_one round heard n = refl

pub count_none : (round : ℕ) (heard : List Heard) → due_count round heard 0 ≡ 0
unfolding due_count
count_none round heard = refl

pub count_more : (round : ℕ) (heard : List Heard) (n : ℕ) → due_count round heard (n + 1) ≡ due_count round heard n + one_or_none (due_of round (first_of n heard))
count_more round heard n = subst (λ k. due_count round heard k ≡ due_count round heard n + one_or_none (due_of round (first_of n heard))) (sym (add-one n)) (count_one round heard n)

count_rises : (round : ℕ) (heard : List Heard) (n k : ℕ) → due_count round heard n ≤ due_count round heard (n + k)
count_rises round heard n zero =
    let same : n + 0 ≡ n = omega arith in
    subst (λ j. due_count round heard n ≤ due_count round heard j) (sym same) (omega arith)
count_rises round heard n (suc k) =
    let before = count_rises round heard n k in
    let one = count_more round heard (n + k) in
    let same : n + suc k ≡ n + k + 1 = omega arith in
    subst (λ j. due_count round heard n ≤ due_count round heard j) (sym same) (omega (arith, before, one))

pub count_below : (round : ℕ) (heard : List Heard) (n m : ℕ) → n ≤ m → due_count round heard n ≤ due_count round heard m
count_below round heard n m le =
    let same : n + (m - n) ≡ m = omega (arith, le) in
    subst (λ j. due_count round heard n ≤ due_count round heard j) same (count_rises round heard n (m - n))

-- ---- what is signed of the orders

pub relays_none : (k : Keys) (me : ℕ) (heard : List Heard) (round : ℕ) → relayed_to k me heard round 0 ≡ []
unfolding relayed_to
relays_none k me heard round = refl

pub relays_more : (k : Keys) (me : ℕ) (heard : List Heard) (round n : ℕ) → relayed_to k me heard round (n + 1) ≡ relayed_to k me heard round n ++ relayed k me round (first_of n heard)
unfolding relayed_to
relays_more k me heard round n =
    let f : ℕ → List Chain = λ order. relayed k me round (first_of order heard) in
    let grown : range_with_len 0 (n + 1) ≡ range_with_len 0 n ++ n ∷ [] = range_more 0 n ∙ ap (λ j. range_with_len 0 n ++ j ∷ []) (zero-add n) in
    ap (flat_map f) grown ∙ flat_map-append f (range_with_len 0 n) (n ∷ []) ∙ ap (λ (cs : List Chain). flat_map f (range_with_len 0 n) ++ cs) (append-nil (f n))

pub relays_all : (k : Keys) (me : ℕ) (heard : List Heard) (round : ℕ) → relayed_to k me heard round k.header.network.orders ≡ signed_in k me None heard round
unfolding relayed_to relays_in
relays_all k me heard round = refl

-- ---- the leaves that are taken

-- what the ring had, or that of an order that is signed now
abbrev pub HasTaken : RunHeader → List Heard → ℕ → List ℕ → ℕ → ℕ → Type 0
HasTaken h heard round old n leaf = Contains old leaf ⊎ IsTakenTo h heard round n leaf

abbrev pub IsNext : RunHeader → List Heard → ℕ → ℕ → ℕ → Type 0
IsNext h heard round n leaf = (leaf ≡ leaf_of_order h n) × (round_signed None heard n ≡ Some round)

pub taken_start : (h : RunHeader) (heard : List Heard) (round : ℕ) (old : List ℕ) (leaf : ℕ) → Contains old leaf ↔ HasTaken h heard round old 0 leaf
taken_start h heard round old leaf = ((λ k. inl k), (λ k. elim k [ inl o ↦ o | inr t ↦ absurd (omega (arith, t.below)) ]))

pub taken_more : (h : RunHeader) (heard : List Heard) (round : ℕ) (old mid new : List ℕ) (n : ℕ) → ((leaf : ℕ) → Contains mid leaf ↔ HasTaken h heard round old n leaf)
    → ((leaf : ℕ) → Contains new leaf ↔ (Contains mid leaf ⊎ IsNext h heard round n leaf)) → (leaf : ℕ) → Contains new leaf ↔ HasTaken h heard round old (n + 1) leaf
taken_more h heard round old mid new n before one leaf = (
  λ k. elim ((one leaf).0 k) [
    | inl m ↦ elim ((before leaf).0 m) [
      | inl o ↦ inl o
      | inr t ↦ inr (record { order = t.order; below = omega (arith, t.below); leaf_is = t.leaf_is; signed = t.signed })
    ]
    | inr p ↦ inr (record { order = n; below = omega arith; leaf_is = p.0; signed = p.1 })
  ],
  λ k. elim k [
    | inl o ↦ (one leaf).1 (inl ((before leaf).1 (inl o)))
    | inr t ↦ elim (bool_cases (eqb t.order n)) [
      | inl e ↦
          let same = eqb-true t.order n e in
          (one leaf).1 (inr (t.leaf_is ∙ ap (leaf_of_order h) same, ap (λ v. round_signed None heard v) (sym same) ∙ t.signed))
      | inr ne ↦
          let other : t.order ≡ n → ⊥ = λ same. (let e = eq-eqb t.order n same in absurd cc) in
          (one leaf).1 (inl ((before leaf).1 (inr (record { order = t.order; below = omega (arith, t.below, other); leaf_is = t.leaf_is; signed = t.signed }))))
    ]
  ],
)

pub taken_end : (h : RunHeader) (heard : List Heard) (round : ℕ) (old new : List ℕ) → ((leaf : ℕ) → Contains new leaf ↔ HasTaken h heard round old h.network.orders leaf)
    → (leaf : ℕ) → Contains new leaf ↔ (Contains old leaf ⊎ IsSignedWith h None heard round leaf)
taken_end h heard round old new all leaf = (
  λ k. elim ((all leaf).0 k) [
    | inl o ↦ inl o
    | inr t ↦ inr (record { order = t.order; known = t.below; leaf_is = t.leaf_is; signed = t.signed })
  ],
  λ k. elim k [
    | inl o ↦ (all leaf).1 (inl o)
    | inr t ↦ (all leaf).1 (inr (record { order = t.order; below = t.known; leaf_is = t.leaf_is; signed = t.signed }))
  ],
)

-- the leaf of the next order is free
pub next_free : (h : RunHeader) (heard : List Heard) (round : ℕ) (old mid : List ℕ) (n : ℕ) → n < h.network.orders
    → ((leaf : ℕ) → IsSignedWith h None heard round leaf → Contains old leaf → ⊥)
    → ((leaf : ℕ) → Contains mid leaf ↔ HasTaken h heard round old n leaf)
    → round_signed None heard n ≡ Some round → Contains mid (leaf_of_order h n) → ⊥
next_free h heard round old mid n known free before signed k = elim ((before (leaf_of_order h n)).0 k) [
  | inl o ↦ free (leaf_of_order h n) (record { order = n; known = known; leaf_is = refl; signed = signed }) o
  | inr t ↦ absurd (omega (arith, t.below, t.leaf_is))
]

-- the leaves that are taken, where one more was taken for an order that is due
pub taken_one : (h : RunHeader) (heard : List Heard) (round : ℕ) (old new : List ℕ) (order o : ℕ) → o ≡ order → round_signed None heard order ≡ Some round
    → ((leaf : ℕ) → Contains new leaf ↔ (Contains old leaf ⊎ (leaf ≡ leaf_of_order h o))) → (leaf : ℕ) → Contains new leaf ↔ (Contains old leaf ⊎ IsNext h heard round order leaf)
taken_one h heard round old new order o same signed taken leaf = (
  λ k. elim ((taken leaf).0 k) [ inl old ↦ inl old | inr e ↦ inr (e ∙ ap (leaf_of_order h) same, signed) ],
  λ k. elim k [ inl old ↦ (taken leaf).1 (inl old) | inr p ↦ (taken leaf).1 (inr (p.0 ∙ ap (leaf_of_order h) (sym same))) ],
)

-- ---- the commander

-- he signs his order in round 1 alone
pub own_signed : (own : ℕ) (heard : List Heard) → round_signed (Some own) heard own ≡ Some 1
own_signed own heard = let same : eqb own own ≡ true = eq-eqb own own refl in rw same refl

own_when : (own order round : ℕ) (heard : List Heard) → round_signed (Some own) heard order ≡ Some round → (order ≡ own) × (round ≡ 1)
own_when own order round heard e = elim (bool_cases (eqb order own)) [
  | inl t ↦ let one : Some 1 ≡ Some round = sym (rw t refl) ∙ e in let same : 1 ≡ round = cc in (eqb-true order own t, sym same)
  | inr f ↦ let none : None ≡ Some round = sym (rw f refl) ∙ e in absurd cc
]

pub own_leaf : (h : RunHeader) (own leaf : ℕ) → own < h.network.orders → IsSignedWith h (Some own) [] 1 leaf ↔ (leaf ≡ leaf_of_order h own)
own_leaf h own leaf known = (
  λ s. s.leaf_is ∙ ap (leaf_of_order h) (own_when own s.order 1 [] s.signed).0,
  λ e. record { order = own; known = known; leaf_is = e; signed = own_signed own [] },
)

pub own_taken : (h : RunHeader) (own : ℕ) (old new : List ℕ) → own < h.network.orders → ((leaf : ℕ) → Contains new leaf ↔ (Contains old leaf ⊎ (leaf ≡ leaf_of_order h own)))
    → (leaf : ℕ) → Contains new leaf ↔ (Contains old leaf ⊎ IsSignedWith h (Some own) [] 1 leaf)
own_taken h own old new known taken leaf = (
  λ k. elim ((taken leaf).0 k) [ inl o ↦ inl o | inr e ↦ inr ((own_leaf h own leaf known).1 e) ],
  λ k. elim k [ inl o ↦ (taken leaf).1 (inl o) | inr s ↦ (taken leaf).1 (inr ((own_leaf h own leaf known).0 s)) ],
)

pub own_chain : (k : Keys) (own : ℕ) (round : ℕ) → round ≡ 1 → signed_in k 0 (Some own) [] round ≡ made k own (0 ∷ []) ∷ []
own_chain k own round first = rw first refl

pub on_ok : {A E : Type 0} (P Q : Type 0) (r : Result A E) → (P → Q) → OnOk r P → OnOk r Q
on_ok P Q (Ok x) f h = f h
on_ok P Q (Err e) f h = h

-- what the commander signs does not depend on what he heard
pub own_with : (h : RunHeader) (own : ℕ) (a b : List Heard) (round leaf : ℕ) → IsSignedWith h (Some own) a round leaf → IsSignedWith h (Some own) b round leaf
own_with h own a b round leaf s = record { order = s.order; known = s.known; leaf_is = s.leaf_is; signed = s.signed }

pub own_taken_with : (h : RunHeader) (own : ℕ) (a b : List Heard) (round : ℕ) (old new : List ℕ) → ((leaf : ℕ) → Contains new leaf ↔ (Contains old leaf ⊎ IsSignedWith h (Some own) a round leaf))
    → (leaf : ℕ) → Contains new leaf ↔ (Contains old leaf ⊎ IsSignedWith h (Some own) b round leaf)
own_taken_with h own a b round old new taken leaf = (
  λ k. elim ((taken leaf).0 k) [ inl o ↦ inl o | inr s ↦ inr (own_with h own a b round leaf s) ],
  λ k. elim k [ inl o ↦ (taken leaf).1 (inl o) | inr s ↦ (taken leaf).1 (inr (own_with h own b a round leaf s)) ],
)

-- ---- a frame, chain by chain

-- one chain more
out_more : (to i : ℕ) (cs : List Chain) (c : Chain) → i < length cs → c ≡ get_or cs i c → map chain_spelling (outside_of to (take (i + 1) cs)) ≡ map chain_spelling (outside_of to (take i cs)) ++ map chain_spelling (outside_of to (c ∷ []))
out_more to i cs c within at =
    let grown : take (i + 1) cs ≡ take i cs ++ c ∷ [] = take_more cs i c within ∙ ap (λ (x : Chain). take i cs ++ x ∷ []) (sym at) in
    ap (λ (xs : List Chain). map chain_spelling (outside_of to xs)) grown
    ∙ ap (map chain_spelling) (filter-append (λ (k : Chain). not (is_among (signed_path k.signers) to)) (take i cs) (c ∷ []))
    ∙ map-append chain_spelling (outside_of to (take i cs)) (outside_of to (c ∷ []))

pub frame_without : (to i : ℕ) (cs : List Chain) (c : Chain) (frame : List (List ℕ)) → i < length cs → c ≡ get_or cs i c → Contains (signed_path c.signers) to
    → frame ≡ map chain_spelling (outside_of to (take i cs)) → frame ≡ map chain_spelling (outside_of to (take (i + 1) cs))
frame_without to i cs c frame within at has before =
    let none : map chain_spelling (outside_of to (c ∷ [])) ≡ [] = rw (in_among (signed_path c.signers) to has) refl in
    before ∙ sym (out_more to i cs c within at ∙ ap (λ (ps : List (List ℕ)). map chain_spelling (outside_of to (take i cs)) ++ ps) none ∙ append-nil (map chain_spelling (outside_of to (take i cs))))

pub frame_with : (to i : ℕ) (cs : List Chain) (c : Chain) (frame new : List (List ℕ)) → i < length cs → c ≡ get_or cs i c → (Contains (signed_path c.signers) to → ⊥)
    → frame ≡ map chain_spelling (outside_of to (take i cs)) → new ≡ frame ++ chain_spelling c ∷ [] → new ≡ map chain_spelling (outside_of to (take (i + 1) cs))
frame_with to i cs c frame new within at out before more =
    let one : map chain_spelling (outside_of to (c ∷ [])) ≡ chain_spelling c ∷ [] = rw (out_among (signed_path c.signers) to out) refl in
    more ∙ ap (λ (ps : List (List ℕ)). ps ++ chain_spelling c ∷ []) before
    ∙ sym (out_more to i cs c within at ∙ ap (λ (ps : List (List ℕ)). map chain_spelling (outside_of to (take i cs)) ++ ps) one)

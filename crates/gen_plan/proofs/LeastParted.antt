-- The first parted pair is the least pair of the rest that few edges do not join, and there is none if and only if all are
-- joined.
use Rattle.std.proofs.Common.{◌≡◌, ℕ, zero, suc, ◌+◌, ◌<◌, inl, inr, ◌⊎◌, ◌↔◌, Bool, true, false, List, [], ◌∷◌, ◌++◌, refl, sym, ap, subst, ◌∙◌, arith, Some, None}
use Rattle.std.specs.List.{flat_map, range_with_len}
use Rattle.std.proofs.lemmas.Bool.{cases_eq}
use Rattle.gen_types.proofs.Lists.{bool_cases}
use Rattle.gen_net.specs.Network.{Network, IsLoyal}
use Rattle.gen_net.specs.Walks.{HasDiameter}
use Rattle.gen_plan.specs.EqualRoots.{first_pair}
use Rattle.gen_plan.specs.Plans.{IsJoinedBy, IsLeastApart}
use Rattle.gen_plan.specs.Parted.{is_joined, is_parted, parted_of, parted_from, parted_pair}
use Rattle.gen_plan.proofs.FirstParted.{Parted, joined_decides, joined_is_none, least_is_first, parted_decides}
use Rattle.gen_plan.proofs.Joined.{all_joined}
use Rattle.gen_plan.proofs.Pairs.{none_first, none_is_not_some, one_more}

-- ---- lists of pairs, made number by number

same_some : (x y : ℕ × ℕ) → Some x ≡ Some y → x ≡ y
same_some x y e = cc

cons_nil : (x : ℕ × ℕ) (xs : List (ℕ × ℕ)) → x ∷ xs ≡ [] → ⊥
cons_nil x xs e = cc

true_false : (t : Bool) → t ≡ true → t ≡ false → ⊥
true_false t e f = cc

no_front : (xs ys : List (ℕ × ℕ)) → xs ++ ys ≡ [] → xs ≡ []
no_front [] ys e = refl
no_front (x ∷ xs) ys e = absurd (cons_nil x (xs ++ ys) e)

no_back : (xs ys : List (ℕ × ℕ)) → xs ++ ys ≡ [] → ys ≡ []
no_back [] ys e = e
no_back (x ∷ xs) ys e = absurd (cons_nil x (xs ++ ys) e)

longer : (f : ℕ → List (ℕ × ℕ)) (n : ℕ) → flat_map f (range_with_len 0 (suc n)) ≡ flat_map f (range_with_len 0 n) ++ f n
longer f n =
    let more : suc n ≡ n + 1 = omega arith in
    ap (λ (k : ℕ). flat_map f (range_with_len 0 k)) more ∙ one_more f n

-- where there is no pair, no number gives one
none_each : (f : ℕ → List (ℕ × ℕ)) (n : ℕ) → flat_map f (range_with_len 0 n) ≡ [] → (i : ℕ) → i < n → f i ≡ []
none_each f zero e i l = absurd (omega (arith, l))
none_each f (suc n) e i l =
    let both : flat_map f (range_with_len 0 n) ++ f n ≡ [] = sym (longer f n) ∙ e in
    elim (cases_eq i n) [
      | inl same ↦ ap f same ∙ no_back (flat_map f (range_with_len 0 n)) (f n) both
      | inr ne ↦ none_each f n (no_front (flat_map f (range_with_len 0 n)) (f n) both) i (omega (arith, l, ne))
    ]

first_of_two : (xs ys : List (ℕ × ℕ)) (pair : ℕ × ℕ) → first_pair (xs ++ ys) ≡ Some pair → (first_pair xs ≡ Some pair) ⊎ ((xs ≡ []) × (first_pair ys ≡ Some pair))
unfolding first_pair
first_of_two [] ys pair e = inr (refl, e)
first_of_two (x ∷ xs) ys pair e = inl e

-- the number that gives the first pair
record GivesFirst (f : ℕ → List (ℕ × ℕ)) (n : ℕ) (pair : ℕ × ℕ) : Type 0 where
  number : ℕ
  below : number < n
  before : flat_map f (range_with_len 0 number) ≡ []
  here : first_pair (f number) ≡ Some pair

first_from : (f : ℕ → List (ℕ × ℕ)) (n : ℕ) (pair : ℕ × ℕ) → first_pair (flat_map f (range_with_len 0 n)) ≡ Some pair → GivesFirst f n pair
unfolding first_pair
first_from f zero pair e = absurd (none_is_not_some pair e)
first_from f (suc n) pair e = elim (first_of_two (flat_map f (range_with_len 0 n)) (f n) pair (sym (ap first_pair (longer f n)) ∙ e)) [
  | inl front ↦
      let g = first_from f n pair front in
      record { number = g.number; below = omega (arith, g.below); before = g.before; here = g.here }
  | inr back ↦ record { number = n; below = omega arith; before = back.0; here = back.1 }
]

-- ---- pairs of the rest

some_here : (net : Network) (faulty : List ℕ) (a b : ℕ) (pair : ℕ × ℕ) → first_pair (parted_of net faulty a b) ≡ Some pair → Parted net faulty a b × (pair ≡ (a, b))
unfolding first_pair
some_here net faulty a b pair e = elim (bool_cases (is_parted net faulty a b)) [
  | inl told ↦ ((parted_decides net faulty a b).0 told, sym (same_some (a, b) pair (rw told at e)))
  | inr fails ↦ absurd (none_is_not_some pair (rw fails at e))
]

none_here : (net : Network) (faulty : List ℕ) (a b : ℕ) → parted_of net faulty a b ≡ [] → Parted net faulty a b → ⊥
none_here net faulty a b e is =
    let yes : is_parted net faulty a b ≡ true = (parted_decides net faulty a b).1 is in
    cons_nil (a, b) [] (rw yes at e)

joined_here : (net : Network) (faulty : List ℕ) (a b : ℕ) → a < b → IsLoyal net faulty a → IsLoyal net faulty b → parted_of net faulty a b ≡ [] → IsJoinedBy net faulty net.diameter a b
joined_here net faulty a b l loyal_a loyal_b none = elim (bool_cases (is_joined net faulty net.diameter a b)) [
  | inl told ↦ (joined_decides net faulty net.diameter a b).0 told
  | inr fails ↦ absurd (none_here net faulty a b none (l, (loyal_a.1, (loyal_b.1, λ j. true_false (is_joined net faulty net.diameter a b) ((joined_decides net faulty net.diameter a b).1 j) fails))))
]

first_is_least : (net : Network) (faulty : List ℕ) (a b : ℕ) → parted_pair net faulty ≡ Some (a, b) → IsLeastApart net faulty net.diameter a b
unfolding parted_pair
first_is_least net faulty a b e =
    let n = net.generals in
    let row = first_from (parted_from net faulty) n (a, b) e in
    let cell = first_from (parted_of net faulty row.number) n (a, b) row.here in
    let is = some_here net faulty row.number cell.number (a, b) cell.here in
    subst (λ (p : ℕ × ℕ). IsLeastApart net faulty net.diameter p.0 p.1) (sym is.1) (record {
      ordered = is.0.0;
      lesser = (row.below, is.0.1.0);
      greater = (cell.below, is.0.1.1.0);
      apart = is.0.1.1.1;
      least = λ x y l loyal_x loyal_y before. elim before [
        | inl low ↦
            let none : parted_from net faulty x ≡ [] = none_each (parted_from net faulty) row.number row.before x low in
            joined_here net faulty x y l loyal_x loyal_y (none_each (parted_of net faulty x) n none y loyal_y.0)
        | inr same ↦
            let none : parted_of net faulty row.number y ≡ [] = none_each (parted_of net faulty row.number) cell.number cell.before y same.1 in
            joined_here net faulty x y l loyal_x loyal_y (ap (λ (z : ℕ). parted_of net faulty z y) same.0 ∙ none)
      ];
    })

none_is_joined : (net : Network) (faulty : List ℕ) → parted_pair net faulty ≡ None → HasDiameter net faulty
unfolding parted_pair
none_is_joined net faulty e =
    let n = net.generals in
    let empty = none_first (flat_map (parted_from net faulty) (range_with_len 0 n)) e in
    all_joined net faulty net.diameter n (omega arith) (λ x y below l loyal_x loyal_y.
    let none : parted_from net faulty x ≡ [] = none_each (parted_from net faulty) n empty x below in
    joined_here net faulty x y l loyal_x loyal_y (none_each (parted_of net faulty x) n none y loyal_y.0))

pub some_is_least : (net : Network) (faulty : List ℕ) (a b : ℕ) → (parted_pair net faulty ≡ Some (a, b)) ↔ IsLeastApart net faulty net.diameter a b
some_is_least net faulty a b = (first_is_least net faulty a b, λ is. sym (least_is_first net faulty a b is))

pub none_is_diameter : (net : Network) (faulty : List ℕ) → (parted_pair net faulty ≡ None) ↔ HasDiameter net faulty
none_is_diameter net faulty = (none_is_joined net faulty, λ all. sym (joined_is_none net faulty all))

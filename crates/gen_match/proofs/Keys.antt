-- Numbers of paths, keys, and the search for them.
use Rattle.std.proofs.Common.{◌≡◌, ◌⊎◌, ◌<◌, ◌≤◌, ◌+◌, ◌-◌, ◌*◌, ◌^◌, ℕ, Bool, true, false, ◌&&◌, ◌||◌, nat_lt, nat_le, ltb, inl, inr, List, [], ◌∷◌, ◌++◌, length, take, drop, get_or, Contains, All, AllPairs, Ok, Err, ◌==◌, refl, sym, ap, ◌∙◌, subst, arith, eq-eqb}
use Rattle.std.specs.List.{dedup}
use Rattle.std.specs.List.Retain.{IsFiltered, DiffersFromLast}
use Rattle.std.specs.List.Sorted.{IsPermutation, IsSorted, IsBinarySearchResult}
use Rattle.std.specs.Ordering.{nat_cmp}
use Rattle.std.specs.Bool.{nat_eq}
use Rattle.std.proofs.Math.Nat.{pow-le-pow_right}
use Rattle.std.proofs.lemmas.Bool.{cases_eq, eqb-true, ltb-true, ltb-false, leb-true, lt-ltb, le-ltb, le-leb, lt-leb}
use Rattle.std.proofs.lemmas.List.{take-append-drop, length-take-le, length-drop}
use Rattle.std.proofs.lemmas.List.Elements.{All-head, All-tail, All-drop, All-from_get_or}
use Rattle.std.proofs.lemmas.List.Folds.{list_any_at, list_any_none}
use Rattle.std.proofs.lemmas.List.Filters.{dedup_is}
use Rattle.std.proofs.lemmas.List.Kept.{AllPairs-from_increasing, Contains-dedup_nat, Contains-from_dedup}
use Rattle.std.proofs.lemmas.List.Sorted.{searched, Contains-permutation, IsPermutation-sym}
use Rattle.std.proofs.lemmas.Map.Keys.{IsStrictlyIncreasing-dedup}
use Rattle.gen_types.specs.Ascending.{IsListOf}
use Rattle.gen_types.specs.Ends.{is_among}
use Rattle.gen_types.proofs.Lists.{Contains_here, Contains_there, Contains_cases, Contains_nil, bool_cases}
use Rattle.gen_match.specs.Prefixes.{number_behind, path_number, source_key, begin_keys, has_between}

-- ---- room

pub small_room : (n k : ℕ) → k ≤ 16 → n < 2 * 16 ^ k → n < 2 ^ 65
small_room n k few h =
    let p : 16 ^ k ≤ 16 ^ 16 = pow-le-pow_right {n = 16} (omega arith) {i = k} {j = 16} few in
    omega (arith, p, h)

-- ---- the number of a path says which path it is

at_least : (n : ℕ) (p : List ℕ) → n ≤ number_behind n p
at_least n [] = omega arith
at_least n (g ∷ p) = let r : n * 16 + g ≤ number_behind (n * 16 + g) p = at_least (n * 16 + g) p in omega (arith, r)

behind_append : (n : ℕ) (p q : List ℕ) → number_behind n (p ++ q) ≡ number_behind (number_behind n p) q
behind_append n [] q = refl
behind_append n (g ∷ p) q = behind_append (n * 16 + g) p q

same_long : (n m : ℕ) (p q : List ℕ) → length p ≡ length q → All (λ g. g < 16) p → All (λ g. g < 16) q → number_behind n p ≡ number_behind m q → (n ≡ m) × (p ≡ q)
same_long n m [] [] l dp dq e = (e, refl)
same_long n m [] (h ∷ q) l dp dq e = absurd (omega (arith, l))
same_long n m (g ∷ p) [] l dp dq e = absurd (omega (arith, l))
same_long n m (g ∷ p) (h ∷ q) l dp dq e =
    let r = same_long (n * 16 + g) (m * 16 + h) p q (omega (arith, l)) (All-tail (λ x. x < 16) g p dp) (All-tail (λ x. x < 16) h q dq) e in
    let a : g < 16 = All-head (λ x. x < 16) g p dp in
    let b : h < 16 = All-head (λ x. x < 16) h q dq in
    let s : n ≡ m = omega (arith, r.0, a, b) in
    let t : g ≡ h = omega (arith, r.0, s) in
    (s, ap (λ x. x ∷ p) t ∙ ap (λ xs. h ∷ xs) r.1)

more_than_one : (q : List ℕ) → 0 < length q → 1 ≡ path_number q → ⊥
more_than_one [] l e = absurd (omega (arith, l))
more_than_one (g ∷ q) l e = let r : 1 * 16 + g ≤ number_behind (1 * 16 + g) q = at_least (1 * 16 + g) q in omega (arith, r, e)

not_longer : (k : ℕ) (p q : List ℕ) → All (λ g. g < 16) p → All (λ g. g < 16) q → path_number p ≡ path_number q → length q ≡ length p + k → 0 < k → ⊥
not_longer k p q dp dq e long some =
    let few : k ≤ length q = omega (arith, long) in
    let back : length p ≡ length (drop k q) = omega (arith, length-drop k q, long) in
    let parts = e ∙ ap path_number (sym (take-append-drop k q)) ∙ behind_append 1 (take k q) (drop k q) in
    let r = same_long 1 (path_number (take k q)) p (drop k q) back dp (All-drop (λ g. g < 16) k q dq) parts in
    more_than_one (take k q) (omega (arith, length-take-le k q few, some)) r.0

pub one_path : (p q : List ℕ) → All (λ g. g < 16) p → All (λ g. g < 16) q → path_number p ≡ path_number q → p ≡ q
one_path p q dp dq e = elim (bool_cases (ltb (length p) (length q))) [
  | inl less ↦ let l : length p < length q = ltb-true (length p) (length q) less in absurd (not_longer (length q - length p) p q dp dq e (omega (arith, l)) (omega (arith, l)))
  | inr more ↦ elim (bool_cases (ltb (length q) (length p))) [
    | inl less ↦ let l : length q < length p = ltb-true (length q) (length p) less in absurd (not_longer (length p - length q) q p dq dp (sym e) (omega (arith, l)) (omega (arith, l)))
    | inr same ↦
        let a : length q ≤ length p = ltb-false (length p) (length q) more in
        let b : length p ≤ length q = ltb-false (length q) (length p) same in
        let r = same_long 1 1 p q (omega (arith, a, b)) dp dq e in
        r.1
  ]
]

-- ---- a key from one key on and below another of the same beginning and order

pub record KeyInside (n v long m w len : ℕ) : Type 0 where
  pub number : m ≡ n
  pub order : w ≡ v
  pub shorter : len < long

pub key_inside : (n v long m w len : ℕ) → v < 16 → w < 16 → len < 32 → long ≤ 32 → source_key n v 0 ≤ source_key m w len → source_key m w len < source_key n v long → KeyInside n v long m w len
key_inside n v long m w len small_v small_w few few_long low high =
    let both : m * 16 + w ≡ n * 16 + v = omega (arith, low, high, few, few_long) in
    let number : m ≡ n = omega (arith, both, small_v, small_w) in
    let order : w ≡ v = omega (arith, both, number) in
    record { number = number; order = order; shorter = omega (arith, high, both) }

-- ---- the keys of a path's beginnings

pub begin_in : (v len n : ℕ) (front : List ℕ) (g : ℕ) (back : List ℕ) → Contains (begin_keys v len n (front ++ g ∷ back)) (source_key (number_behind n (front ++ g ∷ [])) v len)
begin_in v len n [] g back = Contains_here (source_key (n * 16 + g) v len) (begin_keys v len (n * 16 + g) back)
begin_in v len n (x ∷ front) g back = Contains_there (source_key (n * 16 + x) v len) (source_key (number_behind (n * 16 + x) (front ++ g ∷ [])) v len) (begin_keys v len (n * 16 + x) (front ++ g ∷ back)) (begin_in v len (n * 16 + x) front g back)

pub record IsBeginKey (v len n : ℕ) (path : List ℕ) (k : ℕ) : Type 0 where
  pub begin : List ℕ
  pub back : List ℕ
  pub parts : path ≡ begin ++ back
  pub key : k ≡ source_key (number_behind n begin) v len

pub begin_out : (v len n : ℕ) (path : List ℕ) (k : ℕ) → Contains (begin_keys v len n path) k → IsBeginKey v len n path k
begin_out v len n [] k h = absurd (Contains_nil k h)
begin_out v len n (g ∷ path) k h = elim (Contains_cases (source_key (n * 16 + g) v len) k (begin_keys v len (n * 16 + g) path) h) [
  | inl e ↦ record { begin = g ∷ []; back = path; parts = refl; key = sym e }
  | inr there ↦
      let r = begin_out v len (n * 16 + g) path k there in
      record { begin = g ∷ r.begin; back = r.back; parts = ap (λ xs. g ∷ xs) r.parts; key = r.key }
]

-- ---- sorted numbers

pub sorted_apart : (old mid new : List ℕ) → IsPermutation old mid → IsSorted nat_cmp mid → IsFiltered (DiffersFromLast nat_eq) [] mid new → IsListOf new (Contains old)
sorted_apart old mid new moved sorted left =
    let d : new ≡ dedup nat_eq mid = dedup_is nat_eq mid new left in
    record {
      ascending = subst (AllPairs (λ a b. a < b)) (sym d) (AllPairs-from_increasing (dedup nat_eq mid) (IsStrictlyIncreasing-dedup mid sorted));
      members = λ v. (
        (λ h. Contains-permutation mid old v (IsPermutation-sym old mid moved) (Contains-from_dedup nat_eq mid v (subst (λ xs. Contains xs v) d h))),
        (λ h. subst (λ xs. Contains xs v) (sym d) (Contains-dedup_nat mid v (Contains-permutation old mid v moved h))),
      );
    }

-- ---- the search

pub and_split : (b c : Bool) → (b && c) ≡ true → (b ≡ true) × (c ≡ true)
and_split true c e = (refl, e)
and_split false c e = absurd cc

either : (b c : Bool) → (b || c) ≡ true → (b ≡ true) ⊎ (c ≡ true)
either true c e = inl refl
either false c e = inr e

pub between_in : (xs : List ℕ) (low high x : ℕ) → Contains xs x → low ≤ x → x < high → has_between xs low high ≡ true
between_in xs low high x h a b = list_any_at (λ k. nat_le low k && nat_lt k high) xs h.0 x h.1 (rw (h.2, le-leb low x a, lt-ltb x high b) refl)

pub between_out : (xs : List ℕ) (low high : ℕ) → has_between xs low high ≡ true → (x : ℕ) × Contains xs x × (low ≤ x) × (x < high)
between_out [] low high e = absurd cc
between_out (y ∷ ys) low high e = elim (either (nat_le low y && nat_lt y high) (has_between ys low high) e) [
  | inl here ↦
      let r = and_split (nat_le low y) (nat_lt y high) here in
      (y, Contains_here y ys, leb-true low y r.0, ltb-true y high r.1)
  | inr there ↦
      let r = between_out ys low high there in
      (r.0, Contains_there y r.0 ys r.1, r.2, r.3)
]

rises : (xs : List ℕ) → AllPairs (λ a b. a < b) xs → (i j : ℕ) → i ≤ j → j < length xs → get_or xs i 0 ≤ get_or xs j 0
rises xs up i j le l = elim (cases_eq i j) [
  | inl e ↦ rw e (omega arith)
  | inr ne ↦ let r : get_or xs i 0 < get_or xs j 0 = up i j 0 (omega (arith, le, ne)) l in omega (arith, r)
]

-- what a search found of the index at which a number would stand
record IsIndexOf (xs : List ℕ) (low next : ℕ) : Type 0 where
  pub within : next ≤ length xs
  pub below : (k : ℕ) → k < next → get_or xs k 0 < low
  pub above : (k : ℕ) → next ≤ k → k < length xs → low < get_or xs k 0

index_found : (xs : List ℕ) (low next : ℕ) → AllPairs (λ a b. a < b) xs → IsBinarySearchResult (λ y. nat_cmp y low) xs (Err next) → IsIndexOf xs low next
index_found xs low next up found =
    let r = searched xs low (Err next) found (rises xs up) in
    record { within = r.0; below = r.1; above = r.2 }

pub search_found : (xs : List ℕ) (x i : ℕ) → AllPairs (λ a b. a < b) xs → IsBinarySearchResult (λ y. nat_cmp y x) xs (Ok i) → is_among xs x ≡ true
search_found xs x i up found =
    let r = searched xs x (Ok i) found (rises xs up) in
    list_any_at (λ y. y == x) xs i 0 r.0 (eq-eqb (get_or xs i 0) x r.1)

pub search_missed : (xs : List ℕ) (x next : ℕ) → AllPairs (λ a b. a < b) xs → IsBinarySearchResult (λ y. nat_cmp y x) xs (Err next) → is_among xs x ≡ false
search_missed xs x next up missed =
    let r = index_found xs x next up missed in
    list_any_none (λ y. y == x) xs (All-from_get_or (λ y. (y == x) ≡ false) xs 0 (λ i l. apart_at r i l))
  where
    apart_at : IsIndexOf xs x next → (i : ℕ) → i < length xs → (get_or xs i 0 == x) ≡ false
    apart_at r i l = elim (bool_cases (get_or xs i 0 == x)) [
      | inl same ↦
          let e : get_or xs i 0 ≡ x = eqb-true (get_or xs i 0) x same in
          elim (bool_cases (nat_lt i next)) [
            | inl before ↦ absurd (omega (arith, e, r.below i (ltb-true i next before)))
            | inr after ↦ absurd (omega (arith, e, r.above i (ltb-false i next after) l))
          ]
      | inr apart ↦ apart
    ]

too_low : (low high k : ℕ) → k < low → (nat_le low k && nat_lt k high) ≡ false
too_low low high k less = rw (lt-leb low k less) refl

too_high : (low high k : ℕ) → high ≤ k → (nat_le low k && nat_lt k high) ≡ false
too_high low high k more = rw (le-ltb k high more) (and_false (nat_le low k))
  where
    and_false : (b : Bool) → (b && false) ≡ false
    and_false true = refl
    and_false false = refl

pub none_behind : (xs : List ℕ) (low high next : ℕ) → AllPairs (λ a b. a < b) xs → IsBinarySearchResult (λ y. nat_cmp y low) xs (Err next) → length xs ≤ next → has_between xs low high ≡ false
none_behind xs low high next up found past =
    let r = index_found xs low next up found in
    list_any_none (λ k. nat_le low k && nat_lt k high) xs (All-from_get_or (λ k. (nat_le low k && nat_lt k high) ≡ false) xs 0 (λ i l. too_low low high (get_or xs i 0) (r.below i (omega (arith, l, past)))))

pub one_behind : (xs : List ℕ) (low high next x : ℕ) → AllPairs (λ a b. a < b) xs → IsBinarySearchResult (λ y. nat_cmp y low) xs (Err next) → next < length xs → x ≡ get_or xs next 0 → nat_lt x high ≡ has_between xs low high
one_behind xs low high next x up found within is =
    let r = index_found xs low next up found in
    elim (bool_cases (nat_lt x high)) [
      | inl less ↦
          let l : low < x = rw is (r.above next (omega arith) within) in
          less ∙ sym (list_any_at (λ k. nat_le low k && nat_lt k high) xs next 0 within (rw (sym is, le-leb low x (omega (arith, l)), less) refl))
      | inr more ↦
          let m : high ≤ x = ltb-false x high more in
          more ∙ sym (list_any_none (λ k. nat_le low k && nat_lt k high) xs (All-from_get_or (λ k. (nat_le low k && nat_lt k high) ≡ false) xs 0 (λ i l. elim (bool_cases (nat_lt i next)) [
            | inl before ↦ too_low low high (get_or xs i 0) (r.below i (ltb-true i next before))
            | inr after ↦
                let a : next ≤ i = ltb-false i next after in
                let b : get_or xs next 0 ≤ get_or xs i 0 = rises xs up next i a l in
                too_high low high (get_or xs i 0) (omega (arith, m, is, b))
          ])))
    ]

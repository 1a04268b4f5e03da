-- How many values are outside of two bounds, or other than a value, beside how many are up to a number, or this value.
use Rattle.std.proofs.Common.{ℕ, ◌≡◌, ◌≢◌, ◌<◌, ◌≤◌, ◌+◌, ◌==◌, ◌||◌, not, Bool, cond, nat_le, nat_lt, List, length, Contains, count_by, refl, arith, sym, ◌∙◌, slice_index_or}
use Rattle.std.proofs.lemmas.Bool.Decides.{nat_tests}
use Rattle.std.proofs.lemmas.List.Sums.{sum_by-le-sum_by, length-filter, get_or-le-sum_by}
use Rattle.std.proofs.lemmas.List.Filters.{length-filter_both}
use Rattle.gen_combine.specs.Combined.{count_of, count_up_to, differing, outside}

-- each value passes a test or fails it
both : (p : ℕ → Bool) (decided : List ℕ)
    → count_by p decided + count_by (λ x. not (p x)) decided ≡ length decided
both p decided =
    let q : ℕ → Bool = λ x. not (p x) in
    omega (arith, length-filter_both p q (λ x. refl) decided, length-filter p decided, length-filter q decided)

-- a value up to a number below a is outside
below_is_outside : (a b v x : ℕ) → v < a → cond (nat_le x v) 1 0 ≤ cond (nat_lt x a || nat_lt b x) 1 0
below_is_outside a b v x h = grind (arith, nat_tests)

-- all values up to a number below a are outside
pub few_below : (a b v : ℕ) (decided : List ℕ) → v < a → count_up_to decided v ≤ outside a b decided
few_below a b v decided h =
    sum_by-le-sum_by (λ x. cond (nat_le x v) 1 0) (λ x. cond (nat_lt x a || nat_lt b x) 1 0) decided
    (λ x. below_is_outside a b v x h)

-- a value that is not up to b is outside
above_is_outside : (a b x : ℕ) → cond (not (nat_le x b)) 1 0 ≤ cond (nat_lt x a || nat_lt b x) 1 0
above_is_outside a b x = grind (arith, nat_tests)

-- each value is up to b or outside
pub most_up_to : (a b : ℕ) (decided : List ℕ) → length decided ≤ count_up_to decided b + outside a b decided
most_up_to a b decided =
    let more : count_by (λ x. not (nat_le x b)) decided ≤ outside a b decided =
    sum_by-le-sum_by (λ x. cond (not (nat_le x b)) 1 0) (λ x. cond (nat_lt x a || nat_lt b x) 1 0) decided
    (λ x. above_is_outside a b x) in
    omega (arith, both (λ x. nat_le x b) decided)

-- each value is v or another
pub most_are : (v : ℕ) (decided : List ℕ) → count_of decided v + differing v decided ≡ length decided
most_are v decided = both (λ x. x == v) decided

-- if w is not v, a value that is w is other than v
other_differs : (v w x : ℕ) → w ≢ v → cond (x == w) 1 0 ≤ cond (not (x == v)) 1 0
other_differs v w x h = grind (arith, nat_tests)

-- if w is not v, all values that are w are other than v
pub few_are : (v w : ℕ) (decided : List ℕ) → w ≢ v → count_of decided w ≤ differing v decided
few_are v w decided h =
    sum_by-le-sum_by (λ x. cond (x == w) 1 0) (λ x. cond (not (x == v)) 1 0) decided (λ x. other_differs v w x h)

-- a value that does not count as other than v is v
is_same : (v x : ℕ) → cond (not (x == v)) 1 0 ≤ 0 → x ≡ v
is_same v x h = grind (arith, nat_tests)

-- if none of the values is other than v, a value of them is v
pub none_differs : (v x : ℕ) (decided : List ℕ) → differing v decided ≡ 0 → Contains decided x → x ≡ v
none_differs v x decided none held =
    let at : slice_index_or decided held.0 x ≡ v =
    is_same v (slice_index_or decided held.0 x)
    (let few = get_or-le-sum_by (λ y. cond (not (y == v)) 1 0) decided held.0 x held.1 in omega arith) in
    sym held.2 ∙ at

-- What the values that a rule makes keep.
use Rattle.std.proofs.Common.{ℕ, Bool, false, IsTrue, ◌+◌, cond, ◌==◌, subst, slice_index_or, ◌≡◌, ◌≢◌, ◌<◌, ◌≤◌, ◌*◌, inl, inr, List, length, Contains, arith, slice_index, sym, ◌∙◌}
use Rattle.gen_combine.specs.Combined.{IsCombined, IsMedian, IsOfAll, IsOfMost, IsOneOrZero, ReachesHalf, count_of, differing, outside}
use Rattle.gen_combine.specs.declared.combining.Combination.{Combination}
use Rattle.gen_combine.specs.declared.combining.Combination.TheVariants as rule
use Rattle.std.proofs.lemmas.Bool.Decides.{nat_tests}
use Rattle.std.proofs.lemmas.List.Sums.{sum_by-le}
use Rattle.std.proofs.lemmas.Option.{slice_get-get_or}
use Rattle.gen_combine.proofs.Counts.{few_are, few_below, most_are, most_up_to, none_differs}

-- a number that is not below another is at least the other
not_less : (a v : ℕ) → (v < a → ⊥) → a ≤ v
not_less a v h = grind arith

-- two numbers that do not differ are equal
not_other : (v w : ℕ) → (w ≢ v → ⊥) → w ≡ v
not_other v w h = grind arith

-- the median is not below a
not_below : (decided : List ℕ) (m a b v : ℕ) → outside a b decided ≤ m → 2 * m < length decided
    → IsMedian decided v → v < a → ⊥
not_below decided m a b v few many median low =
    let half = median.half in omega (arith, few_below a b v decided low)

-- the median is not above b
not_above : (decided : List ℕ) (m a b v : ℕ) → outside a b decided ≤ m → 2 * m < length decided
    → IsMedian decided v → b < v → ⊥
not_above decided m a b v few many median high =
    median.least b high (omega (arith, most_up_to a b decided))

-- the median is from a to b, if few values are outside
pub median_inside : (decided : List ℕ) (m a b v : ℕ) → outside a b decided ≤ m → 2 * m < length decided
    → IsMedian decided v → (a ≤ v) × (v ≤ b)
median_inside decided m a b v few many median =
    (not_less a v (not_below decided m a b v few many median), not_less v b (not_above decided m a b v few many median))

-- few values are one that differs from v
not_most : (decided : List ℕ) (m v w : ℕ) → differing v decided ≤ m → 2 * m < length decided
    → IsOfMost decided w → w ≢ v → ⊥
not_most decided m v w few many most other = omega (arith, few_are v w decided other)

-- v is of most values, if few differ
is_most : (decided : List ℕ) (m v : ℕ) → differing v decided ≤ m → 2 * m < length decided → IsOfMost decided v
is_most decided m v few many = omega (arith, most_are v decided)

-- the majority is v, if few values differ from v
pub majority_is : (decided : List ℕ) (m v w : ℕ) → differing v decided ≤ m → 2 * m < length decided
    → IsOneOrZero (IsOfMost decided) w → w ≡ v
majority_is decided m v w few many one =
    elim one [
      | inl most ↦ not_other v w (not_most decided m v w few many most)
      | inr none ↦ absurd (none.0 v (is_most decided m v few many))
    ]

-- what all are is each
pub each_is : (decided : List ℕ) (v x : ℕ) → IsOneOrZero (IsOfAll decided) v → v ≢ 0 → Contains decided x → x ≡ v
each_is decided v x one other held =
    elim one [
      | inl all ↦ none_differs v x decided (omega (arith, most_are v decided)) held
      | inr none ↦ absurd (other none.1)
    ]

-- a median is no less than another
median_least : (decided : List ℕ) (v w : ℕ) → IsMedian decided v → IsMedian decided w → v ≤ w
median_least decided v w one two = not_less v w (λ less. one.least w less two.half)

-- two numbers are of most values only if they are one
most_is_one : (decided : List ℕ) (v w : ℕ) → IsOfMost decided v → IsOfMost decided w → v ≡ w
most_is_one decided v w one two =
    not_other w v (λ other. omega (arith, few_are w v decided other, most_are w decided))

-- all of some values are at most one number
all_is_one : (decided : List ℕ) (v w : ℕ) → 0 < length decided → IsOfAll decided v → IsOfAll decided w → v ≡ w
all_is_one decided v w some one two =
    not_other w v (λ other. omega (arith, few_are w v decided other, most_are w decided))

-- one number or 0, of a fact of one number at most
one_or_zero : (P : ℕ → Type 0) → ((v w : ℕ) → P v → P w → v ≡ w) → (v w : ℕ)
    → IsOneOrZero P v → IsOneOrZero P w → v ≡ w
one_or_zero P one v w here there =
    elim here [
      | inl a ↦ elim there [ inl b ↦ one v w a b | inr none ↦ absurd (none.0 v a) ]
      | inr none ↦ elim there [ inl b ↦ absurd (none.0 w b) | inr also ↦ none.1 ∙ sym also.1 ]
    ]

-- a rule makes one value at most
pub is_one : (r : Combination) (decided : List ℕ) (v w : ℕ) → 0 < length decided
    → IsCombined r decided v → IsCombined r decided w → v ≡ w
is_one rule.Median decided v w some one two =
    let less = median_least decided v w one two in
    let more = median_least decided w v two one in omega arith
is_one rule.Majority decided v w some one two =
    one_or_zero (IsOfMost decided) (most_is_one decided) v w one two
is_one rule.All decided v w some one two =
    one_or_zero (IsOfAll decided) (λ a b. all_is_one decided a b some) v w one two

-- a value that is not w does not count as w
not_counted : (w y : ℕ) → (y ≡ w → ⊥) → cond (y == w) 1 0 ≤ 0
not_counted w y other = grind (arith, nat_tests)

-- a number that is of most values is one of them
none_counted : (decided : List ℕ) (w : ℕ)
    → ((k : ℕ) (d : ℕ) → k < length decided → slice_index_or decided k d ≡ w → ⊥) → count_of decided w ≤ 0
none_counted decided w none =
    let few = sum_by-le (λ y. cond (y == w) 1 0) 0 decided (λ k d inside. not_counted w (slice_index_or decided k d) (none k d inside)) in
    omega (arith, few)

-- a value of a list is the same whatever stands for a value behind its end
same_item : (decided : List ℕ) (i d e : ℕ) → i < length decided → slice_index_or decided i d ≡ slice_index_or decided i e
same_item decided i d e inside =
    let one = slice_get-get_or decided i d inside in
    let two = slice_get-get_or decided i e inside in cc

-- no number is of most values, if none of the values is
pub none_is_of_most : (decided : List ℕ)
    → ((k : ℕ) → k < length decided → IsOfMost decided (slice_index decided k) → ⊥) → (w : ℕ) → IsOfMost decided w → ⊥
none_is_of_most decided none w most =
    let few = none_counted decided w (λ k d inside is.
    none k inside (subst (λ n. IsOfMost decided n) (sym is ∙ same_item decided k d 0 inside) most)) in
    omega arith

-- a fact does not hold if its test fails
pub fails : (P : Type 0) (b : Bool) → (P → IsTrue b) → b ≡ false → P → ⊥
fails P b tests failed holds = let passed = tests holds in cc

-- what is not at least n is less
pub not_at_least : (n k : ℕ) → (n ≤ k → ⊥) → k + 1 ≤ n
not_at_least n k h = grind arith

-- the number that was found is the median
pub is_median : (decided : List ℕ) (k v : ℕ) → v ≡ k → ReachesHalf decided k
    → ((w : ℕ) → w < k → ReachesHalf decided w → ⊥) → IsMedian decided v
is_median decided k v same half least =
    subst (λ n. IsMedian decided n) (sym same) (record { half = half; least = least })

-- the item of a loop is the value at its place
item_is : (decided : List ℕ) (i x : ℕ) → i < length decided → x ≡ slice_index_or decided i x → slice_index decided i ≡ x
item_is decided i x inside is = same_item decided i 0 x inside ∙ sym is

-- no value at the place of an item is of most, if the item is not
pub none_of_item : (decided : List ℕ) (i x : ℕ) → i < length decided → x ≡ slice_index_or decided i x
    → (IsOfMost decided x → ⊥) → IsOfMost decided (slice_index decided i) → ⊥
none_of_item decided i x inside is none most =
    none (subst (λ n. IsOfMost decided n) (item_is decided i x inside is) most)

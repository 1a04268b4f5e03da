-- What the code does with bits, said of members.
use Rattle.std.proofs.Common.{◌≡◌, ℕ, ◌+◌, ◌*◌, ◌/◌, ◌%◌, ◌^◌, ◌<◌, ◌↔◌, ◌⊎◌, inl, inr, Bool, true, false, cond, not, IsTrue, List, [], ◌∷◌, ◌++◌, length, filter, Contains, AllPairs, bit_and, bit_or, refl, sym, ap, ◌∙◌, subst, arith, eqb-true, eq-eqb, w16, length-append, zero, suc, add-zero, zero-add, Some, None, ◌-◌, ◌≤◌, slice_get}
use Rattle.std.proofs.lemmas.Option.{slice_get_past}
use Rattle.std.proofs.lemmas.List.Elements.{filter-append}
use Rattle.std.specs.Bool.{nat_eq}
use Rattle.std.specs.List.{range_with_len}
use Rattle.std.specs.Int.{bit_at}
use Rattle.std.specs.Cmp.Lexicographic.{pointwise, same_text, other_text}
use Rattle.std.proofs.lemmas.Bool.{cases_eq}
use Rattle.std.proofs.lemmas.Nat.Bits.{shr_and_one, bit_at_set_same, bit_at_set_other}
use Rattle.gen_types.specs.Bits.{has_bit, members_of, bits_of}
use Rattle.gen_types.specs.BitLaws.{members_has, members_gives, members_ascending, bits_in, bits_out, bits_of-members_of}
use Rattle.gen_types.specs.Ascending.{IsListOf}
use Rattle.gen_types.specs.Members.{bool_cases, filter_more}
use Rattle.gen_types.proofs.Lists.{decide_contains, ascending_one}

pub test-bit : (n v : ℕ) → nat_eq (bit_and (n / 2 ^ v) 1) 1 ≡ has_bit n v
test-bit n v = ap (λ b. nat_eq b 1) (shr_and_one n v)

pub told_contains : (n v : ℕ) → v < 16 → IsTrue (nat_eq (bit_and (n / 2 ^ v) 1) 1) ↔ Contains (members_of n) v
told_contains n v below = (
  (λ h. members_gives n v below (eqb-true (bit_at n v) 1 (subst IsTrue (test-bit n v) h))),
  (λ h. subst IsTrue (sym (test-bit n v)) (eq-eqb (bit_at n v) 1 (members_has n v h).1)),
)

not_both : false ≡ true → ⊥
not_both e = cc

pub told_lacks : (b : Bool) (P : Type 0) → (IsTrue b ↔ P) → IsTrue (not b) ↔ (P → ⊥)
told_lacks true P told = ((λ h p. not_both h), (λ no. absurd (no (told.0 refl))))
told_lacks false P told = ((λ h p. not_both (told.1 p)), (λ no. refl))

pub with_bit : (n k : ℕ) → k < 16 → IsListOf (members_of (bit_or n (1 * 2 ^ k % 2 ^ 16))) (λ v. Contains (members_of n) v ⊎ (v ≡ k))
with_bit n k below = record {
  ascending = members_ascending (bit_or n (1 * 2 ^ k % 2 ^ 16));
  members = λ v. (
    (λ h. elim (cases_eq v k) [
      | inl e ↦ inr e
      | inr ne ↦ let r = members_has (bit_or n (1 * 2 ^ k % 2 ^ 16)) v h in inl (members_gives n v r.0 (sym (bit_at_set_other w16 n k below v ne) ∙ r.1))
    ]),
    (λ h. elim (cases_eq v k) [
      | inl e ↦ subst (λ w. Contains (members_of (bit_or n (1 * 2 ^ k % 2 ^ 16))) w) (sym e) (members_gives (bit_or n (1 * 2 ^ k % 2 ^ 16)) k below (bit_at_set_same w16 n k below))
      | inr ne ↦ elim h [
        | inl old ↦ let r = members_has n v old in members_gives (bit_or n (1 * 2 ^ k % 2 ^ 16)) v r.0 (bit_at_set_other w16 n k below v ne ∙ r.1)
        | inr e ↦ absurd (ne e)
      ]
    ]),
  );
}

pub told_empty : (n : ℕ) → n < 2 ^ 16 → IsTrue (nat_eq n 0) ↔ (members_of n ≡ [])
unfolding bits_of
told_empty n below = (
  (λ h. let e : n ≡ 0 = eqb-true n 0 h in rw e (unfold members_of in refl)),
  (λ h. eq-eqb n 0 (sym (bits_of-members_of n below) ∙ ap bits_of h)),
)

pub told_same : (a b : ℕ) → a < 2 ^ 16 → b < 2 ^ 16 → nat_eq a b ≡ pointwise nat_eq (members_of a) (members_of b)
told_same a b la lb = elim (bool_cases (pointwise nat_eq (members_of a) (members_of b))) [
  | inl yes' ↦
      let lists : members_of a ≡ members_of b = same_text (members_of a) (members_of b) (sym yes') in
      let e : a ≡ b = sym (bits_of-members_of a la) ∙ (ap bits_of lists ∙ bits_of-members_of b lb) in
      eq-eqb a b e ∙ sym yes'
  | inr no' ↦ elim (bool_cases (nat_eq a b)) [
    | inl same ↦ absurd (other_text (members_of a) (members_of b) (sym no') (ap members_of (eqb-true a b same)))
    | inr other ↦ other ∙ sym no'
  ]
]

-- one more number is looked at
pub counted : (n i count : ℕ) → count ≡ length (filter (has_bit n) (range_with_len 0 i)) → count + cond (has_bit n i) 1 0 ≡ length (filter (has_bit n) (range_with_len 0 (i + 1)))
counted n i count so_far =
    rw (filter_more (has_bit n) i, length-append (filter (has_bit n) (range_with_len 0 i)) (cond (has_bit n i) (i ∷ []) []), ← so_far)
    (elim (bool_cases (has_bit n i)) [ inl e ↦ rw e refl | inr e ↦ rw e refl ])

pub bit_yes : (n v : ℕ) → bit_and (n / 2 ^ v) 1 ≡ 1 → has_bit n v ≡ true
bit_yes n v h = eq-eqb (bit_at n v) 1 (sym (shr_and_one n v) ∙ h)

pub bit_no : (n v : ℕ) → (bit_and (n / 2 ^ v) 1 ≡ 1 → ⊥) → has_bit n v ≡ false
bit_no n v h = elim (bool_cases (has_bit n v)) [
  | inl e ↦ absurd (h (shr_and_one n v ∙ eqb-true (bit_at n v) 1 e))
  | inr e ↦ e
]

-- counted, or passed
pub counted_one : (n i count : ℕ) → count ≡ length (filter (has_bit n) (range_with_len 0 i)) → has_bit n i ≡ true → count + 1 ≡ length (filter (has_bit n) (range_with_len 0 (i + 1)))
counted_one n i count so_far e = rw e at (counted n i count so_far)

pub counted_none : (n i count : ℕ) → count ≡ length (filter (has_bit n) (range_with_len 0 i)) → has_bit n i ≡ false → count ≡ length (filter (has_bit n) (range_with_len 0 (i + 1)))
counted_none n i count so_far e = let h : count + 0 ≡ length (filter (has_bit n) (range_with_len 0 (i + 1))) = rw e at (counted n i count so_far) in rw add-zero at h

range_split : (a n k : ℕ) → range_with_len a (n + k) ≡ range_with_len a n ++ range_with_len (a + n) k
range_split a zero k = rw (zero-add, add-zero) refl
range_split a (suc n) k =
    let longer : suc n + k ≡ suc (n + k) = omega arith in
    let from : (a + 1) + n ≡ a + suc n = omega arith in
    ap (range_with_len a) longer ∙ ap (λ r. a ∷ r) (range_split (a + 1) n k ∙ ap (λ b. range_with_len (a + 1) n ++ range_with_len b k) from)

get_middle : (xs ys : List ℕ) (y : ℕ) → slice_get (xs ++ y ∷ ys) (length xs) ≡ Some y
get_middle [] ys y = refl
get_middle (x ∷ xs) ys y = get_middle xs ys y

-- the member of a filtered range at the place of its count
place_in : (P : ℕ → Bool) (total v place : ℕ) → v < total → P v ≡ true → place ≡ length (filter P (range_with_len 0 v)) → slice_get (filter P (range_with_len 0 total)) place ≡ Some v
place_in P total v place below holds so_far =
    let parts : total ≡ v + suc (total - (v + 1)) = omega arith in
    let rest : List ℕ = filter P (range_with_len (v + 1) (total - (v + 1))) in
    let whole : filter P (range_with_len 0 total) ≡ filter P (range_with_len 0 v) ++ v ∷ rest =
    ap (λ k. filter P (range_with_len 0 k)) parts ∙ (ap (filter P) (range_split 0 v (suc (total - (v + 1)))) ∙ (filter-append P (range_with_len 0 v) (range_with_len (0 + v) (suc (total - (v + 1)))) ∙ rw (zero-add, holds) refl)) in
    ap (λ xs. slice_get xs place) whole ∙ (ap (slice_get (filter P (range_with_len 0 v) ++ v ∷ rest)) so_far ∙ get_middle (filter P (range_with_len 0 v)) rest v)

past_in : (P : ℕ → Bool) (total i place count : ℕ) → total ≤ i → i ≤ total → count ≡ length (filter P (range_with_len 0 i)) → count ≤ place → slice_get (filter P (range_with_len 0 total)) place ≡ None
past_in P total i place count low high so_far past =
    let e : i ≡ total = omega arith in
    let all : count ≡ length (filter P (range_with_len 0 total)) = rw e at so_far in
    slice_get_past (filter P (range_with_len 0 total)) place (omega arith)

pub place_of : (n v place : ℕ) → v < 16 → has_bit n v ≡ true → place ≡ length (filter (has_bit n) (range_with_len 0 v)) → slice_get (members_of n) place ≡ Some v
unfolding members_of
place_of n v place below holds so_far = place_in (has_bit n) 16 v place below holds so_far

pub place_past : (n i place count : ℕ) → 16 ≤ i → i ≤ 16 → count ≡ length (filter (has_bit n) (range_with_len 0 i)) → count ≤ place → slice_get (members_of n) place ≡ None
unfolding members_of
place_past n i place count low high so_far past = past_in (has_bit n) 16 i place count low high so_far past

-- an ascending list of numbers below 16 is given back by its bits
pub members_back : (xs : List ℕ) → AllPairs (λ v w. v < w) xs → ((v : ℕ) → Contains xs v → v < 16) → members_of (bits_of xs) ≡ xs
members_back xs up below =
    ascending_one (members_of (bits_of xs)) xs (members_ascending (bits_of xs)) up
    (λ v h. elim (decide_contains xs v) [
      | inl there ↦ there
      | inr none ↦ let one = (members_has (bits_of xs) v h).1 in let zero = bits_out xs v none in absurd (omega (arith, one, zero))
    ])
    (λ v h. members_gives (bits_of xs) v (below v h) (bits_in xs v h))

-- Lemmas: a number is given back by its bits, and its members are those of its bits.
use Rattle.std.specs.Prelude.{ℕ, ◌≡◌, ◌<◌, ◌^◌, List, [], ◌∷◌, Contains, AllPairs, max}
use Rattle.std.specs.Int.{bit_at}
use Rattle.std.proofs.Common.{sym, ◌∙◌, subst, inl, inr, arith, eqb-true, eq-eqb}
use Rattle.std.proofs.lemmas.Bool.{cases_eq}
use Rattle.std.proofs.lemmas.Nat.Bits.{same_from_bits_below, bit_at_or, bit_at-pow_same, bit_at-pow_other, bit_at-zero, bit_at-lt}
use Rattle.std.proofs.lemmas.Nat.{or_lt, pow_below, pow_pos}
use Rattle.gen_types.specs.Bits.{has_bit, members_of, bits_of}
use Rattle.gen_types.specs.Members.{Contains_here, Contains_there, Contains_cases, Contains_nil, filter_range_has, filter_range_gives, filter_range_ascending}

pub members_has : (n v : ℕ) → Contains (members_of n) v → (v < 16) × (bit_at n v ≡ 1)
unfolding members_of
members_has n v h =
    let r = filter_range_has (has_bit n) 0 16 v h in (omega (arith, r.1), eqb-true (bit_at n v) 1 r.2)

pub members_gives : (n v : ℕ) → v < 16 → bit_at n v ≡ 1 → Contains (members_of n) v
unfolding members_of
members_gives n v below e =
    filter_range_gives (has_bit n) 0 16 v (omega arith) (omega arith) (eq-eqb (bit_at n v) 1 e)

pub members_ascending : (n : ℕ) → AllPairs (λ v w. v < w) (members_of n)
unfolding members_of
members_ascending n = filter_range_ascending (has_bit n) 0 16

-- the bits that are set in the number of a list are those of the list's members
pub bits_in : (xs : List ℕ) (i : ℕ) → Contains xs i → bit_at (bits_of xs) i ≡ 1
unfolding bits_of
bits_in [] i h = absurd (Contains_nil i h)
bits_in (x ∷ xs) i h =
    let both : bit_at (bits_of (x ∷ xs)) i ≡ max (bit_at (2 ^ x) i) (bit_at (bits_of xs) i) =
    bit_at_or (2 ^ x) (bits_of xs) i in
    let few = bit_at-lt (2 ^ x) i in
    let few' = bit_at-lt (bits_of xs) i in
    elim (Contains_cases x i xs h) [
      | inl e ↦ let same : bit_at (2 ^ x) i ≡ 1 = subst (λ w. bit_at (2 ^ x) w ≡ 1) e (bit_at-pow_same x)
          in both ∙ (omega arith)
      | inr there ↦ let rest = bits_in xs i there in both ∙ (omega arith)
    ]

pub bits_out : (xs : List ℕ) (i : ℕ) → (Contains xs i → ⊥) → bit_at (bits_of xs) i ≡ 0
unfolding bits_of
bits_out [] i none = bit_at-zero i
bits_out (x ∷ xs) i none =
    let both : bit_at (bits_of (x ∷ xs)) i ≡ max (bit_at (2 ^ x) i) (bit_at (bits_of xs) i) =
    bit_at_or (2 ^ x) (bits_of xs) i in
    let other : bit_at (2 ^ x) i ≡ 0 =
    bit_at-pow_other x i (λ e. none (subst (λ w. Contains (x ∷ xs) w) (sym e) (Contains_here x xs))) in
    let rest : bit_at (bits_of xs) i ≡ 0 = bits_out xs i (λ h. none (Contains_there x i xs h)) in
    both ∙ (omega arith)

pub bits_below : (n : ℕ) (xs : List ℕ) → ((v : ℕ) → Contains xs v → v < n) → bits_of xs < 2 ^ n
unfolding bits_of
bits_below n [] below = pow_pos n
bits_below n (x ∷ xs) below =
    or_lt n (2 ^ x) (bits_of xs) (pow_below x n (below x (Contains_here x xs)))
    (bits_below n xs (λ v h. below v (Contains_there x v xs h)))

pub bits_of-members_of : (n : ℕ) → n < 2 ^ 16 → bits_of (members_of n) ≡ n
bits_of-members_of n below =
    let small = bits_below 16 (members_of n) (λ v h. (members_has n v h).0) in
    same_from_bits_below 16 (bits_of (members_of n)) n small below (λ i low.
    elim (cases_eq (bit_at n i) 1) [
      | inl set ↦ bits_in (members_of n) i (members_gives n i low set) ∙ sym set
      | inr clear ↦ let few = bit_at-lt n i in let zero : bit_at n i ≡ 0 = omega arith
          in bits_out (members_of n) i (λ h. clear (members_has n i h).1) ∙ sym zero
    ])

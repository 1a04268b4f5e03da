-- Lemmas: the bits of a set of leaves are given back by the list of its members.
use Rattle.std.specs.Prelude.{ℕ, ◌≡◌, ◌<◌, ◌^◌, Contains, AllPairs}
use Rattle.std.specs.Int.{bit_at}
use Rattle.std.proofs.Common.{sym, ◌∙◌, inl, inr, arith, eqb-true, eq-eqb}
use Rattle.std.proofs.lemmas.Bool.{cases_eq}
use Rattle.std.proofs.lemmas.Nat.Bits.{same_from_bits_below, bit_at-lt}
use Rattle.gen_types.specs.Bits.{has_bit, bits_of}
use Rattle.gen_types.specs.BitLaws.{bits_in, bits_out, bits_below}
use Rattle.gen_types.specs.Members.{filter_range_has, filter_range_gives, filter_range_ascending}
use Rattle.gen_tree.specs.Leaves.{leaves_in}
use Rattle.gen_tree.specs.Sizes.{most_leaves}

pub leaves_has : (n v : ℕ) → Contains (leaves_in n) v → (v < most_leaves) × (bit_at n v ≡ 1)
unfolding leaves_in
leaves_has n v h =
    let r = filter_range_has (has_bit n) 0 most_leaves v h in
    (omega (arith, r.1), eqb-true (bit_at n v) 1 r.2)

pub leaves_gives : (n v : ℕ) → v < most_leaves → bit_at n v ≡ 1 → Contains (leaves_in n) v
unfolding leaves_in
leaves_gives n v below e =
    filter_range_gives (has_bit n) 0 most_leaves v (omega arith) (omega arith)
    (eq-eqb (bit_at n v) 1 e)

pub leaves_ascending : (n : ℕ) → AllPairs (λ v w. v < w) (leaves_in n)
unfolding leaves_in
leaves_ascending n = filter_range_ascending (has_bit n) 0 most_leaves

pub bits_of-leaves_in : (n : ℕ) → n < 2 ^ most_leaves → bits_of (leaves_in n) ≡ n
bits_of-leaves_in n below =
    let small = bits_below most_leaves (leaves_in n) (λ v h. (leaves_has n v h).0) in
    same_from_bits_below most_leaves (bits_of (leaves_in n)) n small below (λ i low.
    elim (cases_eq (bit_at n i) 1) [
      | inl set ↦ bits_in (leaves_in n) i (leaves_gives n i low set) ∙ sym set
      | inr clear ↦
          let few = bit_at-lt n i in
          let zero : bit_at n i ≡ 0 = omega arith in
          bits_out (leaves_in n) i (λ h. clear (leaves_has n i h).1) ∙ sym zero
    ])

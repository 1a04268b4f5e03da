-- What the code does with bits, said of the leaves whose bits are set.
use Rattle.std.proofs.Common.{◌≡◌, ◌≤◌, ◌<◌, nat_lt, ◌*◌, ◌/◌, ◌%◌, ◌^◌, ◌↔◌, ◌⊎◌, inl, inr, ℕ, IsTrue, [], Contains, bit_and, bit_or, refl, ap, sym, ◌∙◌, subst, arith, eqb-true, eq-eqb, w64}
use Rattle.std.specs.Bool.{Decides, nat_eq}
use Rattle.std.specs.Cmp.Lexicographic.{pointwise}
use Rattle.std.proofs.lemmas.Bool.{cases_eq}
use Rattle.std.proofs.lemmas.Bool.Decides.{nat_tests, same_from_decides}
use Rattle.std.proofs.lemmas.Slice.Eq.{bytes_eq-Decides}
use Rattle.std.proofs.lemmas.Nat.Bits.{shr_and_one, bit_at_set_same, bit_at_set_other}
use Rattle.gen_types.specs.Ascending.{IsListOf}
use Rattle.gen_types.specs.Bits.{bits_of}
use Rattle.gen_tree.specs.Leaves.{leaves_in}
use Rattle.gen_tree.specs.LeafLaws.{leaves_has, leaves_gives, leaves_ascending, bits_of-leaves_in}
use Rattle.gen_tree.specs.Sizes.{most_leaves}

pub told_contains : (n v : ℕ) → v < most_leaves → IsTrue (nat_eq (bit_and (n / 2 ^ v) 1) 1) ↔ Contains (leaves_in n) v
told_contains n v below = (
  (λ h. leaves_gives n v below (sym (shr_and_one n v) ∙ eqb-true (bit_and (n / 2 ^ v) 1) 1 h)),
  (λ h. eq-eqb (bit_and (n / 2 ^ v) 1) 1 (shr_and_one n v ∙ (leaves_has n v h).1)),
)

-- a bit that is set makes its leaf a member
pub with_leaf : (n k : ℕ) → k < most_leaves → IsListOf (leaves_in (bit_or n (1 * 2 ^ k % 2 ^ 64))) (λ v. Contains (leaves_in n) v ⊎ (v ≡ k))
with_leaf n k below =
    let next = bit_or n (1 * 2 ^ k % 2 ^ 64) in
    record {
      ascending = leaves_ascending next;
      members = λ v. (
        (λ h. elim (cases_eq v k) [
          | inl e ↦ inr e
          | inr ne ↦
              let r = leaves_has next v h in
              inl (leaves_gives n v r.0 (sym (bit_at_set_other w64 n k below v ne) ∙ r.1))
        ]),
        (λ h. elim (cases_eq v k) [
          | inl e ↦
              let here = leaves_gives next k below (bit_at_set_same w64 n k below) in
              subst (λ w. Contains (leaves_in next) w) (sym e) here
          | inr ne ↦ elim h [
            | inl old ↦
                let r = leaves_has n v old in
                leaves_gives next v r.0 (bit_at_set_other w64 n k below v ne ∙ r.1)
            | inr e ↦ absurd (ne e)
          ]
        ]),
      );
    }

pub told_empty : (n : ℕ) → n < 2 ^ most_leaves → IsTrue (nat_eq n 0) ↔ (leaves_in n ≡ [])
unfolding bits_of
told_empty n below = (
  (λ h. let e : n ≡ 0 = eqb-true n 0 h in rw e (unfold leaves_in in refl)),
  (λ h. eq-eqb n 0 (sym (bits_of-leaves_in n below) ∙ ap bits_of h)),
)

pub not_below : {P : Type 0} (a b : ℕ) → b ≤ a → IsTrue (nat_lt a b) → P
not_below a b h t = absurd (grind (arith, nat_tests))

-- two sets have the same bits where they have the same members
pub told_same : (a b : ℕ) → a < 2 ^ most_leaves → b < 2 ^ most_leaves → nat_eq a b ≡ pointwise nat_eq (leaves_in a) (leaves_in b)
told_same a b la lb =
    let members : Decides (pointwise nat_eq (leaves_in a) (leaves_in b)) (leaves_in a ≡ leaves_in b) = bytes_eq-Decides (leaves_in a) (leaves_in b) in
    let numbers : Decides (nat_eq a b) (a ≡ b) = (eqb-true a b, eq-eqb a b) in
    same_from_decides (nat_eq a b) (pointwise nat_eq (leaves_in a) (leaves_in b)) numbers (
      (λ h. sym (bits_of-leaves_in a la) ∙ (ap bits_of (members.0 h) ∙ bits_of-leaves_in b lb)),
      (λ e. members.1 (ap leaves_in e)),
    )

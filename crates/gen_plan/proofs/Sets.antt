-- Sets as bits.
use Rattle.std.proofs.Common.{◌≡◌, ℕ, ◌<◌, ◌^◌, ◌↔◌, ◌⊎◌, inl, inr, List, [], Contains, bit_or, ◌∙◌, arith}
use Rattle.std.specs.Int.{bit_at}
use Rattle.std.proofs.lemmas.Bool.{cases_order}
use Rattle.std.proofs.lemmas.Nat.Bits.{bit_at_or, bit_at_above, bit_at-lt}
use Rattle.gen_types.specs.Ascending.{IsListOf}
use Rattle.gen_types.specs.Bits.{members_of, bits_of}
use Rattle.gen_types.specs.BitLaws.{members_has, members_gives, members_ascending, bits_in, bits_out}
use Rattle.gen_types.proofs.Lists.{decide_contains}
use Rattle.gen_types.specs.Members.{Contains_nil}

-- the same list, where the properties are the same
pub listed_as : (xs : List ℕ) (P Q : ℕ → Type 0) → IsListOf xs P → ((v : ℕ) → P v ↔ Q v) → IsListOf xs Q
listed_as xs P Q list same = record {
  ascending = list.ascending;
  members = λ v. ((λ h. (same v).0 ((list.members v).0 h)), (λ q. (list.members v).1 ((same v).1 q)));
}

pub listed_none : (xs : List ℕ) (P : ℕ → Type 0) → xs ≡ [] → ((v : ℕ) → P v → ⊥) → IsListOf xs P
listed_none xs P e none = record {
  ascending = rw e (λ i j d l m. absurd (omega (arith, m)));
  members = λ v. ((λ h. absurd (Contains_nil v (rw e at h))), (λ p. absurd (none v p)));
}

member_bit : (xs : List ℕ) (v : ℕ) → bits_of xs < 2 ^ 16 → Contains xs v → v < 16
member_bit xs v small h =
    let set : bit_at (bits_of xs) v ≡ 1 = bits_in xs v h in
    elim (cases_order v 16) [
      | inl e ↦ absurd (omega (arith, set, bit_at_above (bits_of xs) 16 v small (omega (arith, e))))
      | inr (inl l) ↦ l
      | inr (inr m) ↦ absurd (omega (arith, set, bit_at_above (bits_of xs) 16 v small (omega (arith, m))))
    ]

pub either_of : (a b : List ℕ) → bits_of a < 2 ^ 16 → bits_of b < 2 ^ 16
    → IsListOf (members_of (bit_or (bits_of a) (bits_of b))) (λ v. Contains a v ⊎ Contains b v)
either_of a b small_a small_b = record {
  ascending = members_ascending (bit_or (bits_of a) (bits_of b));
  members = λ v. (
    (λ h. let set = (members_has (bit_or (bits_of a) (bits_of b)) v h).1 in
        elim (decide_contains a v) [
          | inl in_a ↦ inl in_a
          | inr not_a ↦ elim (decide_contains b v) [
            | inl in_b ↦ inr in_b
            | inr not_b ↦ absurd (omega (arith, set, bit_at_or (bits_of a) (bits_of b) v, bits_out a v not_a, bits_out b v not_b))
          ]
        ]),
    (λ h. elim h [
      | inl in_a ↦ members_gives (bit_or (bits_of a) (bits_of b)) v (member_bit a v small_a in_a)
          (let one = bits_in a v in_a in let most = bit_at-lt (bits_of b) v in bit_at_or (bits_of a) (bits_of b) v ∙ (omega arith))
      | inr in_b ↦ members_gives (bit_or (bits_of a) (bits_of b)) v (member_bit b v small_b in_b)
          (let one = bits_in b v in_b in let most = bit_at-lt (bits_of a) v in bit_at_or (bits_of a) (bits_of b) v ∙ (omega arith))
    ]),
  );
}

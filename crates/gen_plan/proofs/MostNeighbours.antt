-- The most neighbours of the generals below a number.
use Rattle.std.proofs.Common.{◌≡◌, ℕ, ◌+◌, ◌<◌, ◌≤◌, max, inl, inr, List, AllPairs, Contains, length, sym, ap, ◌∙◌, subst, arith}
use Rattle.std.specs.List.{range_with_len}
use Rattle.std.proofs.lemmas.List.FromFn.{length-range_with_len}
use Rattle.std.proofs.lemmas.Bool.{cases_eq, cases_lt}
use Rattle.gen_net.specs.Network.{Network}
use Rattle.gen_types.proofs.Lists.{ascending_one, length-le_from_distinct, Contains_in_range}
use Rattle.gen_plan.specs.Sizes.{HasNeighbours, HasMostNeighbours}

-- a general has one number of neighbours
one_count : (net : Network) (g count other : ℕ) → HasNeighbours net g count → HasNeighbours net g other → count ≡ other
one_count net g count other has also =
    let same : has.0 ≡ also.0 = ascending_one has.0 also.0 has.1.ascending also.1.ascending
    (λ v h. (also.1.members v).1 ((has.1.members v).0 h)) (λ v h. (has.1.members v).1 ((also.1.members v).0 h)) in
    sym has.2 ∙ (ap length same ∙ also.2)

pub record MostBelow (net : Network) (number most : ℕ) : Type 0 where
  pub reached : (g : ℕ) × (g < number) × HasNeighbours net g most
  pub none_more : (g count : ℕ) → g < number → HasNeighbours net g count → count ≤ most
  pub few : most ≤ 16

pub first_most : (net : Network) (g most : ℕ) → g ≡ 0 → HasNeighbours net g most → most ≤ 16 → MostBelow net 1 most
first_most net g most e has few = record {
  reached = (0, omega arith, subst (λ x. HasNeighbours net x most) e has);
  none_more = λ x count l h.
      let at : x ≡ g = omega (arith, l, e) in
      let same = one_count net g count most (subst (λ z. HasNeighbours net z count) at h) has in omega (arith, same);
  few = few;
}

pub next_most : (net : Network) (number most g count both : ℕ) → g ≡ number → HasNeighbours net g count → count ≤ 16 → both ≡ max most count → MostBelow net number most → MostBelow net (number + 1) both
next_most net number most g count both e has few is so = record {
  reached = elim (cases_lt most count) [
    | inl l ↦
        let at : count ≡ both = omega (arith, is, l) in
        (number, omega arith, subst (λ m. HasNeighbours net number m) at (subst (λ x. HasNeighbours net x count) e has))
    | inr m ↦
        let at : most ≡ both = omega (arith, is, m) in
        (so.reached.0, omega (arith, so.reached.1), subst (λ x. HasNeighbours net so.reached.0 x) at so.reached.2)
  ];
  none_more = λ x other l h. elim (cases_eq x g) [
    | inl at ↦ let same = one_count net g other count (subst (λ z. HasNeighbours net z other) at h) has in omega (arith, same, is)
    | inr ne ↦ let low = so.none_more x other (omega (arith, l, e, ne)) h in omega (arith, low, is)
  ];
  few = omega (arith, is, few, so.few);
}

pub all_most : (net : Network) (number most : ℕ) → number ≡ net.generals → MostBelow net number most → HasMostNeighbours net most
all_most net number most e so = record {
  reached = (so.reached.0, omega (arith, so.reached.1, e), so.reached.2);
  none_more = λ g count l h. so.none_more g count (omega (arith, l, e)) h;
}

-- an ascending list of numbers below 16 has at most 16
pub few_below : (set : List ℕ) (count : ℕ) → count ≡ length set → AllPairs (λ v w. v < w) set → ((v : ℕ) → Contains set v → v < 16) → count ≤ 16
few_below set count e up below =
    let long : length set ≤ length (range_with_len 0 16) =
    length-le_from_distinct set (range_with_len 0 16) (λ i j d l m same. let less = up i j d l m in absurd (omega (arith, less, same)))
    (λ x h. let l = below x h in Contains_in_range 0 16 x (omega arith) (omega (arith, l))) in
    omega (arith, e, long, length-range_with_len 0 16)

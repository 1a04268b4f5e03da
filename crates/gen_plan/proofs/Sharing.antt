-- The pairs of equal roots are all such pairs, in ascending order.
use Rattle.std.proofs.Common.{◌≡◌, ℕ, ◌+◌, ◌<◌, ◌↔◌, zero, suc, inl, inr, Bool, true, false, List, [], ◌∷◌, ◌++◌, Contains, AllPairs, refl, sym, ap, subst, ◌∙◌, nat_eq, nat_lt, arith, ◌&&◌, ◌⊎◌}
use Rattle.std.specs.Cmp.Lexicographic.{pointwise}
use Rattle.std.specs.List.{flat_map, range_with_len}
use Rattle.std.proofs.lemmas.Bool.{cases_eq, ltb-true, lt-ltb}
use Rattle.std.proofs.lemmas.List.Elements.{Contains-append_cases, Contains-append_left, Contains-append_right}
use Rattle.std.proofs.lemmas.Slice.Eq.{bytes_eq-Decides}
use Rattle.gen_types.proofs.Decimals.{both}
use Rattle.gen_types.proofs.Lists.{AllPairs-append}
use Rattle.gen_types.specs.Members.{Contains_here, Contains_cases, Contains_nil, bool_cases}
use Rattle.gen_net.specs.Header.{RunHeader, root_of}
use Rattle.gen_net.specs.Network.{IsBefore}
use Rattle.gen_plan.specs.EqualRoots.{AreEqualRoots, HasOwnRoots, share_root, pair_of, pairs_of, equal_roots}
use Rattle.gen_plan.proofs.Pairs.{one_more}

-- the list has the pairs that are asked for, in ascending order
record ArePairs (Asked : ℕ → ℕ → Type 0) (pairs : List (ℕ × ℕ)) : Type 0 where
  ascending : AllPairs IsBefore pairs
  members : (a b : ℕ) → Contains pairs (a, b) ↔ Asked a b

none_asked : (Asked : ℕ → ℕ → Type 0) → ((a b : ℕ) → Asked a b → ⊥) → ArePairs Asked []
none_asked Asked none = record {
  ascending = λ i j d l m. absurd (omega arith);
  members = λ a b. ((λ h. absurd (Contains_nil (a, b) h)), (λ h. absurd (none a b h)));
}

one_asked : (Asked : ℕ → ℕ → Type 0) (x y : ℕ) → Asked x y → ((a b : ℕ) → Asked a b → (a ≡ x) × (b ≡ y)) → ArePairs Asked ((x, y) ∷ [])
one_asked Asked x y is only = record {
  ascending = λ i j d l m. absurd (omega arith);
  members = λ a b. (
    (λ h. elim (Contains_cases (x, y) (a, b) [] h) [
      | inl e ↦ subst (λ (z : ℕ × ℕ). Asked z.0 z.1) e is
      | inr none ↦ absurd (Contains_nil (a, b) none)
    ]),
    (λ h. let e = only a b h in rw (e.0, e.1) (Contains_here (x, y) [])),
  );
}

joined : (A B Asked : ℕ → ℕ → Type 0) (xs ys : List (ℕ × ℕ)) → ArePairs A xs → ArePairs B ys → ((a b c d : ℕ) → A a b → B c d → IsBefore (a, b) (c, d)) → ((a b : ℕ) → Asked a b → A a b ⊎ B a b) → ((a b : ℕ) → A a b → Asked a b) → ((a b : ℕ) → B a b → Asked a b) → ArePairs Asked (xs ++ ys)
joined A B Asked xs ys hx hy between cases left right = record {
  ascending = AllPairs-append IsBefore xs ys hx.ascending hy.ascending (λ p q hp hq. between p.0 p.1 q.0 q.1 ((hx.members p.0 p.1).0 hp) ((hy.members q.0 q.1).0 hq));
  members = λ a b. (
    (λ h. elim (Contains-append_cases xs ys (a, b) h) [
      | inl l ↦ left a b ((hx.members a b).0 l)
      | inr r ↦ right a b ((hy.members a b).0 r)
    ]),
    (λ h. elim (cases a b h) [
      | inl l ↦ Contains-append_left xs ys (a, b) ((hx.members a b).1 l)
      | inr r ↦ Contains-append_right xs ys (a, b) ((hy.members a b).1 r)
    ]),
  );
}

-- the pair of a and b is asked for, with a b below n
abbrev Of : RunHeader → ℕ → ℕ → ℕ → ℕ → Type 0
Of h x n a b = (a ≡ x) × (b < n) × (share_root h a b ≡ true)

abbrev Here : RunHeader → ℕ → ℕ → ℕ → ℕ → Type 0
Here h x y a b = (a ≡ x) × (b ≡ y) × (share_root h a b ≡ true)

told_both : (t : Bool) → t ≡ true → t ≡ false → ⊥
told_both t e f = cc

here : (h : RunHeader) (x y : ℕ) → ArePairs (Here h x y) (pair_of h x y)
here h x y = elim (bool_cases (share_root h x y)) [
  | inl e ↦ rw e (one_asked (Here h x y) x y (refl, refl, e) (λ a b p. (p.0, p.1)))
  | inr e ↦ rw e (none_asked (Here h x y) (λ a b p. told_both (share_root h x y) (rw (p.0, p.1) at p.2) e))
]

of_general : (h : RunHeader) (x n : ℕ) → ArePairs (Of h x n) (flat_map (pair_of h x) (range_with_len 0 n))
of_general h x zero = none_asked (Of h x 0) (λ a b p. absurd (omega (arith, p.1)))
of_general h x (suc n) =
    let more : suc n ≡ n + 1 = omega arith in
    let longer : flat_map (pair_of h x) (range_with_len 0 (suc n)) ≡ flat_map (pair_of h x) (range_with_len 0 n) ++ pair_of h x n = ap (λ (k : ℕ). flat_map (pair_of h x) (range_with_len 0 k)) more ∙ one_more (pair_of h x) n in
    subst (λ pairs. ArePairs (Of h x (suc n)) pairs) (sym longer) (joined (Of h x n) (Here h x n) (Of h x (suc n)) (flat_map (pair_of h x) (range_with_len 0 n)) (pair_of h x n) (of_general h x n) (here h x n)
    (λ a b c d p q. inr (rw (p.0, q.0) refl, omega (arith, p.1, q.1)))
    (λ a b p. elim (cases_eq b n) [
      | inl e ↦ inr (p.0, e, p.2)
      | inr ne ↦ inl (p.0, omega (arith, p.1), p.2)
    ])
    (λ a b p. (p.0, omega (arith, p.1), p.2))
    (λ a b p. (p.0, omega (arith, p.1), p.2)))

-- the pair of a and b is asked for, with a below k and b below n
abbrev Before : RunHeader → ℕ → ℕ → ℕ → ℕ → Type 0
Before h k n a b = (a < k) × (b < n) × (share_root h a b ≡ true)

of_generals : (h : RunHeader) (k : ℕ) → ArePairs (Before h k h.network.generals) (flat_map (pairs_of h) (range_with_len 0 k))
of_generals h zero = none_asked (Before h 0 h.network.generals) (λ a b p. absurd (omega (arith, p.0)))
of_generals h (suc k) =
    let n = h.network.generals in
    let more : suc k ≡ k + 1 = omega arith in
    let longer : flat_map (pairs_of h) (range_with_len 0 (suc k)) ≡ flat_map (pairs_of h) (range_with_len 0 k) ++ pairs_of h k = ap (λ (j : ℕ). flat_map (pairs_of h) (range_with_len 0 j)) more ∙ one_more (pairs_of h) k in
    subst (λ pairs. ArePairs (Before h (suc k) n) pairs) (sym longer) (joined (Before h k n) (Of h k n) (Before h (suc k) n) (flat_map (pairs_of h) (range_with_len 0 k)) (pairs_of h k) (of_generals h k) (of_general h k n)
    (λ a b c d p q. inl (omega (arith, p.0, q.0)))
    (λ a b p. elim (cases_eq a k) [
      | inl e ↦ inr (e, p.1, p.2)
      | inr ne ↦ inl (omega (arith, p.0), p.1, p.2)
    ])
    (λ a b p. (omega (arith, p.0), p.1, p.2))
    (λ a b p. (omega (arith, p.0), p.1, p.2)))

both_so : (a b : Bool) → a ≡ true → b ≡ true → (a && b) ≡ true
both_so true b e f = f
both_so false b e f = absurd cc

shares : (h : RunHeader) (a b : ℕ) → (share_root h a b ≡ true) ↔ ((a < b) × (root_of h a ≡ root_of h b))
unfolding share_root
shares h a b = (
  (λ e. let p = both (nat_lt a b) (pointwise nat_eq (root_of h a) (root_of h b)) e in (ltb-true a b p.0, (bytes_eq-Decides (root_of h a) (root_of h b)).0 p.1)),
  (λ p. both_so (nat_lt a b) (pointwise nat_eq (root_of h a) (root_of h b)) (lt-ltb a b p.0) ((bytes_eq-Decides (root_of h a) (root_of h b)).1 p.1)),
)

pub are_equal_roots : (h : RunHeader) → AreEqualRoots h (equal_roots h)
unfolding equal_roots
are_equal_roots h =
    let n = h.network.generals in
    let all = of_generals h n in
    record {
      ascending = all.ascending;
      members = λ a b. (
        (λ c. let p = (all.members a b).0 c in let q = (shares h a b).0 p.2 in record { ordered = q.0; inside = p.1; equal = q.1 }),
        (λ e. (all.members a b).1 (omega (arith, e.ordered, e.inside), e.inside, (shares h a b).1 (e.ordered, e.equal))),
      );
    }

-- a list that has no member is empty
none_in : (pairs : List (ℕ × ℕ)) → ((a b : ℕ) → Contains pairs (a, b) → ⊥) → pairs ≡ []
none_in [] none = refl
none_in (pair ∷ more) none = absurd (none pair.0 pair.1 (Contains_here pair more))

pub no_pairs : (h : RunHeader) → (equal_roots h ≡ []) ↔ HasOwnRoots h
no_pairs h = (
  (λ e a b shared. Contains_nil (a, b) (subst (λ pairs. Contains pairs (a, b)) e (((are_equal_roots h).members a b).1 shared))),
  (λ own. none_in (equal_roots h) (λ a b c. own a b (((are_equal_roots h).members a b).0 c))),
)

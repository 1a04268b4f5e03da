-- The first parted pair is the least pair of the rest that few edges do not join.
use Rattle.std.proofs.Common.{◌≡◌, ℕ, zero, suc, ◌+◌, ◌<◌, ◌⊎◌, inl, inr, Bool, true, false, not, ◌&&◌, ◌==◌, nat_lt, List, [], ◌∷◌, ◌++◌, Contains, refl, sym, ap, subst, ◌∙◌, arith, Option, Some, None, IfSome, IfNone}
use Rattle.std.specs.Bool.{Decides}
use Rattle.std.specs.List.{flat_map, list_any, range_with_len}
use Rattle.std.proofs.lemmas.Bool.{eqb-true, eq-eqb, or_cases, or_left, or_right, and_parts, and_from, false_from_ne_true}
use Rattle.std.proofs.lemmas.Bool.Decides.{Decides-and, Decides-not, Decides-like, Decides-eqb, Decides-ltb, Decides-below_or}
use Rattle.gen_types.specs.Ends.{is_among}
use Rattle.gen_types.specs.Members.{Contains_here, Contains_there, Contains_cases, Contains_nil}
use Rattle.gen_types.proofs.Among.{among_in, in_among}
use Rattle.gen_net.specs.Edges.{joins}
use Rattle.gen_net.specs.Network.{Network, AreNeighbours}
use Rattle.gen_net.specs.Walks.{IsWalk}
use Rattle.gen_plan.specs.EqualRoots.{first_pair}
use Rattle.gen_plan.specs.Plans.{IsJoinedBy, AreJoinedBy, IsLeastApart}
use Rattle.gen_plan.specs.Parted.{any_below, is_near, leads, is_joined, is_parted, parted_of, parted_from, parted_pair}
use Rattle.gen_plan.proofs.Pairs.{first_at, one_more}

-- ---- edges

same_pair : (a b : ℕ) (e : ℕ × ℕ) → (e.0 == a && e.1 == b) ≡ true → (a, b) ≡ e
same_pair a b e h =
    let p = and_parts (e.0 == a) (e.1 == b) h in
    let x : e.0 ≡ a = eqb-true e.0 a p.0 in let y : e.1 ≡ b = eqb-true e.1 b p.1 in λ i. (sym x i, sym y i)

pair_itself : (a b : ℕ) → (a == a && b == b) ≡ true
pair_itself a b = and_from (a == a) (b == b) (eq-eqb a a refl) (eq-eqb b b refl)

near_in : (a b : ℕ) (edges : List (ℕ × ℕ)) → list_any (joins a b) edges ≡ true → Contains edges (a, b) ⊎ Contains edges (b, a)
near_in a b [] h = absurd cc
near_in a b (e ∷ es) h = elim (or_cases (joins a b e) (list_any (joins a b) es) h) [
  | inl here ↦ elim (or_cases (e.0 == a && e.1 == b) (e.0 == b && e.1 == a) here) [
    | inl q ↦ inl (subst (λ z. Contains (e ∷ es) z) (sym (same_pair a b e q)) (Contains_here e es))
    | inr q ↦ inr (subst (λ z. Contains (e ∷ es) z) (sym (same_pair b a e q)) (Contains_here e es))
  ]
  | inr there ↦ elim (near_in a b es there) [ inl k ↦ inl (Contains_there e (a, b) es k) | inr k ↦ inr (Contains_there e (b, a) es k) ]
]

in_near : (a b : ℕ) (edges : List (ℕ × ℕ)) (e : ℕ × ℕ) → joins a b e ≡ true → Contains edges e → list_any (joins a b) edges ≡ true
in_near a b [] e j h = absurd (Contains_nil e h)
in_near a b (x ∷ xs) e j h = elim (Contains_cases x e xs h) [
  | inl q ↦ or_left (joins a b x) (list_any (joins a b) xs) (subst (λ z. joins a b z ≡ true) (sym q) j)
  | inr k ↦ or_right (joins a b x) (list_any (joins a b) xs) (in_near a b xs e j k)
]

near_decides : (net : Network) (a b : ℕ) → Decides (is_near net a b) (AreNeighbours net a b)
near_decides net a b = (
  near_in a b net.edges,
  λ near. elim near [
    | inl k ↦ in_near a b net.edges (a, b) (or_left (a == a && b == b) (a == b && b == a) (pair_itself a b)) k
    | inr k ↦ in_near a b net.edges (b, a) (or_right (b == a && a == b) (b == b && a == a) (pair_itself b a)) k
  ],
)

-- ---- walks

out_decides : (faulty : List ℕ) (g : ℕ) → Decides (not (is_among faulty g)) (Contains faulty g → ⊥)
out_decides faulty g = Decides-not (is_among faulty g) (among_in faulty g, in_among faulty g)

-- a step from a to c, and a walk on from there
abbrev pub Onward : Network → List ℕ → ℕ → ℕ → ℕ → ℕ → Type 0
Onward net faulty edges a b c = AreNeighbours net a c × ((Contains faulty c → ⊥) × IsWalk net faulty edges c b)

onward_walk : (net : Network) (faulty : List ℕ) (edges a b : ℕ) → (c : ℕ) × (c < net.generals) × Onward net faulty edges a b c → IsWalk net faulty (suc edges) a b
onward_walk net faulty edges a b (c, inside, (near, (out, walk))) = (c, near, (inside, out), walk)

walk_onward : (net : Network) (faulty : List ℕ) (edges a b : ℕ) → IsWalk net faulty (suc edges) a b → (c : ℕ) × (c < net.generals) × Onward net faulty edges a b c
walk_onward net faulty edges a b (c, near, loyal, walk) = (c, loyal.0, (near, (loyal.1, walk)))

abbrev pub onward : Network → List ℕ → ℕ → ℕ → ℕ → ℕ → Bool
onward net faulty edges a b c = is_near net a c && (not (is_among faulty c) && leads net faulty edges c b)

leads_decides : (net : Network) (faulty : List ℕ) (edges a b : ℕ) → Decides (leads net faulty edges a b) (IsWalk net faulty edges a b)
leads_decides net faulty zero a b = Decides-eqb a b
leads_decides net faulty (suc edges) a b =
    let each : (c : ℕ) → Decides (onward net faulty edges a b c) (Onward net faulty edges a b c) =
    λ c. Decides-and (is_near net a c) (not (is_among faulty c) && leads net faulty edges c b) (near_decides net a c)
    (Decides-and (not (is_among faulty c)) (leads net faulty edges c b) (out_decides faulty c) (leads_decides net faulty edges c b)) in
    Decides-like (leads net faulty (suc edges) a b) (onward_walk net faulty edges a b) (walk_onward net faulty edges a b)
    (Decides-below_or (onward net faulty edges a b) (Onward net faulty edges a b) (any_below (onward net faulty edges a b)) each refl (λ n. refl) net.generals)

pub joined_decides : (net : Network) (faulty : List ℕ) (most a b : ℕ) → Decides (is_joined net faulty most a b) (IsJoinedBy net faulty most a b)
joined_decides net faulty most a b =
    let walks : Decides (is_joined net faulty most a b) ((edges : ℕ) × (edges < suc most) × IsWalk net faulty edges a b) =
    Decides-below_or (λ edges. leads net faulty edges a b) (λ edges. IsWalk net faulty edges a b) (any_below (λ edges. leads net faulty edges a b))
    (λ edges. leads_decides net faulty edges a b) refl (λ n. refl) (suc most) in
    Decides-like (is_joined net faulty most a b) (λ h. (h.0, omega (arith, h.1), h.2)) (λ j. (j.0, omega (arith, j.1), j.2)) walks

-- ---- pairs

-- a stands before b, neither is faulty, and they are not joined
abbrev pub Parted : Network → List ℕ → ℕ → ℕ → Type 0
Parted net faulty a b = (a < b) × ((Contains faulty a → ⊥) × ((Contains faulty b → ⊥) × (IsJoinedBy net faulty net.diameter a b → ⊥)))

pub parted_decides : (net : Network) (faulty : List ℕ) (a b : ℕ) → Decides (is_parted net faulty a b) (Parted net faulty a b)
unfolding is_parted
parted_decides net faulty a b =
    let joined = is_joined net faulty net.diameter a b in
    let out = λ (g : ℕ). not (is_among faulty g) in
    Decides-and (nat_lt a b) (out a && (out b && not joined)) (Decides-ltb a b)
    (Decides-and (out a) (out b && not joined) (out_decides faulty a)
    (Decides-and (out b) (not joined) (out_decides faulty b) (Decides-not joined (joined_decides net faulty net.diameter a b))))

none_of : (net : Network) (faulty : List ℕ) (a b : ℕ) → (Parted net faulty a b → ⊥) → parted_of net faulty a b ≡ []
none_of net faulty a b none =
    let no : is_parted net faulty a b ≡ false = false_from_ne_true (is_parted net faulty a b) (λ yes. none ((parted_decides net faulty a b).0 yes)) in
    rw no refl

-- what no number below k gives
none_below : {A : Type 0} (f : ℕ → List A) (k : ℕ) → ((i : ℕ) → i < k → f i ≡ []) → flat_map f (range_with_len 0 k) ≡ []
none_below f zero none = refl
none_below f (suc k) none =
    let more : suc k ≡ k + 1 = omega arith in
    ap (λ (n : ℕ). flat_map f (range_with_len 0 n)) more ∙ one_more f k
    ∙ ap (λ xs. xs ++ f k) (none_below f k (λ i l. none i (omega (arith, l)))) ∙ none k (omega arith)

-- no pair of a general is parted, as far as the others go that are joined to it
none_from : (net : Network) (faulty : List ℕ) (a n : ℕ) → ((b : ℕ) → b < n → Parted net faulty a b → ⊥) → flat_map (parted_of net faulty a) (range_with_len 0 n) ≡ []
none_from net faulty a n none = none_below (parted_of net faulty a) n (λ b l. none_of net faulty a b (none b l))

first_of_one : (net : Network) (faulty : List ℕ) (a b : ℕ) → Parted net faulty a b → first_pair (parted_of net faulty a b) ≡ Some (a, b)
unfolding first_pair
first_of_one net faulty a b is =
    let yes : is_parted net faulty a b ≡ true = (parted_decides net faulty a b).1 is in
    rw yes refl

module _ (net : Network) (faulty : List ℕ) where
  -- the least pair that is not joined is the first parted one
  pub least_is_first : (a b : ℕ) → IsLeastApart net faulty net.diameter a b → Some (a, b) ≡ parted_pair net faulty
  unfolding parted_pair
  least_is_first a b is =
      let n = net.generals in
      let before : (y : ℕ) → y < b → Parted net faulty a y → ⊥ =
      λ y l p. p.1.1.1 (is.least a y p.0 is.lesser (omega (arith, l, is.greater.0), p.1.1.0) (inr (refl, l))) in
      let row : first_pair (parted_from net faulty a) ≡ Some (a, b) =
      first_at (parted_of net faulty a) n b (a, b) is.greater.0 (none_from net faulty a b before)
      (first_of_one net faulty a b (is.ordered, (is.lesser.1, (is.greater.1, is.apart)))) in
      let above : (x : ℕ) → x < a → parted_from net faulty x ≡ [] =
      λ x l. none_from net faulty x n (λ y m p. p.1.1.1 (is.least x y p.0 (omega (arith, l, is.lesser.0), p.1.0) (m, p.1.1.0) (inl l))) in
      sym (first_at (parted_from net faulty) n a (a, b) is.lesser.0 (none_below (parted_from net faulty) a above) row)

  -- where all are joined there is none
  pub joined_is_none : AreJoinedBy net faulty net.diameter → None ≡ parted_pair net faulty
  unfolding parted_pair first_pair
  joined_is_none all =
      let n = net.generals in
      let rows : (x : ℕ) → x < n → parted_from net faulty x ≡ [] =
      λ x l. none_from net faulty x n (λ y m p. p.1.1.1 (all x y (l, p.1.0) (m, p.1.1.0))) in
      sym (ap first_pair (none_below (parted_from net faulty) n rows))

  pub is_parted_pair : (found : Option (ℕ × ℕ)) → IfSome found (λ pair. IsLeastApart net faulty net.diameter pair.0 pair.1)
      → IfNone found (AreJoinedBy net faulty net.diameter) → found ≡ parted_pair net faulty
  is_parted_pair (Some pair) some none = least_is_first pair.0 pair.1 some
  is_parted_pair None some none = joined_is_none none

-- The run in which no value has a name at both lieutenants: its messages one by one, and what each lieutenant takes.
use Rattle.std.proofs.Common.{◌≡◌, ◌≢◌, ℕ, ◌+◌, ◌<◌, ◌↔◌, ◌⊎◌, inl, inr, ◌==◌, false, List, [], ◌∷◌, length, Contains, All, AllPairs, Some, None, refl, sym, ap, ◌∙◌, subst, arith}
use Rattle.std.proofs.lemmas.Bool.{cases_eq, ne_eqb}
use Rattle.std.proofs.lemmas.List.Elements.{All-contains}
use Rattle.std.proofs.lemmas.List.Kept.{AllPairs-cons}
use Rattle.gen_types.proofs.Lists.{Contains_cases, Contains_nil, Contains_here, All_of}
use Rattle.gen_net.specs.Network.{IsNetwork, IsLoyal, IsBefore, AreNeighbours}
use Rattle.gen_net.specs.declared.message.Message.{Message}
use Rattle.gen_net.specs.Run.{IsWellFormed, IsRun, Adds, Accepts, OrderArrives}
use Rattle.gen_net.specs.Follows.{IsRelayed, LieutenantFollows, LieutenantDecides, Relays}
use Rattle.gen_net.specs.Walks.{HasDiameter}
use Rattle.gen_named.specs.Named.{AreNames, over, about, IsFull, FollowsNamed, IsNamedRun}
use Rattle.gen_named.specs.Theorem.{Premises}
use Rattle.gen_named.specs.OtherNames.{three, given, relayed, four_values, pair, own_messages, part_of, other_names_case, NamesDiffer}

-- ---- lists of a few elements

all_one : {X : Type 0} (P : X → Type 0) (a : X) → P a → All P (a ∷ [])
all_one P a p = All_of P (a ∷ []) (λ x h. elim (Contains_cases a x [] h) [ inl e ↦ subst P e p | inr none ↦ absurd (Contains_nil x none) ])

all_more : {X : Type 0} (P : X → Type 0) (a : X) (xs : List X) → P a → All P xs → All P (a ∷ xs)
all_more P a xs p all = All_of P (a ∷ xs) (λ x h. elim (Contains_cases a x xs h) [ inl e ↦ subst P e p | inr k ↦ All-contains P xs x all k ])

all_four : {X : Type 0} (P : X → Type 0) (a b c d : X) (xs : List X) → P a → P b → P c → P d → All P xs → All P (a ∷ b ∷ c ∷ d ∷ xs)
all_four P a b c d xs p q r s all = all_more P a (b ∷ c ∷ d ∷ xs) p (all_more P b (c ∷ d ∷ xs) q (all_more P c (d ∷ xs) r (all_more P d xs s all)))

all_none : {X : Type 0} (P : X → Type 0) → All P []
all_none P = All_of P [] (λ x h. absurd (Contains_nil x h))

one_paired : {X : Type 0} (R : X → X → Type 0) (a : X) → AllPairs R (a ∷ [])
one_paired R a i j x l m = absurd (omega arith)

two_paired : {X : Type 0} (R : X → X → Type 0) (a b : X) → R a b → AllPairs R (a ∷ b ∷ [])
two_paired R a b r = AllPairs-cons R a (b ∷ []) (all_one (R a) b r) (one_paired R b)

-- what holds of each of these messages holds of every message of the run, or of a lieutenant's own
each : (P : Message → Type 0) → P (given 1 0) → P (given 1 1) → P (given 2 2) → P (given 2 3) → P (relayed 1 2 0) → P (relayed 1 2 1) → P (relayed 2 1 2) → P (relayed 2 1 3) → (t : Message) → Contains four_values t → P t
each P a b c d e f g h t k = All-contains P four_values t
    (all_four P (given 1 0) (given 1 1) (given 2 2) (given 2 3) (relayed 1 2 0 ∷ relayed 1 2 1 ∷ relayed 2 1 2 ∷ relayed 2 1 3 ∷ []) a b c d
    (all_four P (relayed 1 2 0) (relayed 1 2 1) (relayed 2 1 2) (relayed 2 1 3) [] e f g h (all_none P))) k

each_own : (P : Message → Type 0) (g other : ℕ) → P (given g 1) → P (given g 2) → P (relayed g other 1) → P (relayed g other 2) → (t : Message) → Contains (own_messages g other) t → P t
each_own P g other a b c d t k = All-contains P (own_messages g other) t (all_four P (given g 1) (given g 2) (relayed g other 1) (relayed g other 2) [] a b c d (all_none P)) k

same_message : (t u : Message) → t.from ≡ u.from → t.to ≡ u.to → t.order ≡ u.order → t.path ≡ u.path → t ≡ u
same_message t u a b c d = λ i. record { from = a i; to = b i; order = c i; path = d i }

-- ---- the network

abbrev Ascends : ℕ × ℕ → Type 0
Ascends e = (e.0 < e.1) × (e.1 < 3)

edge_ends : (a b : ℕ) → Contains three.edges (a, b) → (a < b) × (b < 3)
edge_ends a b h = All-contains Ascends three.edges (a, b) (all_more Ascends (0, 1) ((0, 2) ∷ (1, 2) ∷ []) (omega arith, omega arith) (all_more Ascends (0, 2) ((1, 2) ∷ []) (omega arith, omega arith) (all_one Ascends (1, 2) (omega arith, omega arith)))) h

pub three_is_network : IsNetwork three
three_is_network = record {
  ranges = record {
    some_generals = omega arith;
    few_generals = omega arith;
    few_traitors = omega arith;
    some_diameter = omega arith;
    few_diameter = omega arith;
    few_rounds = omega arith;
    some_orders = omega arith;
    few_orders = omega arith;
  };
  edges = record { inside = edge_ends; ascending = ascending };
} where
  ascending : AllPairs IsBefore three.edges
  ascending = AllPairs-cons IsBefore (0, 1) ((0, 2) ∷ (1, 2) ∷ []) (all_more (IsBefore (0, 1)) (0, 2) ((1, 2) ∷ []) (inr (refl, omega arith)) (all_one (IsBefore (0, 1)) (1, 2) (inl (omega arith)))) (two_paired IsBefore (0, 2) (1, 2) (inl (omega arith)))

neighbour_below : (a b : ℕ) → AreNeighbours three a b → b < 3
neighbour_below a b near = elim near [
  | inl h ↦ (edge_ends a b h).1
  | inr h ↦ let ends = edge_ends b a h in omega (arith, ends.0, ends.1)
]

near_01 : AreNeighbours three 0 1
near_01 = inl (0, omega arith, refl)

near_02 : AreNeighbours three 0 2
near_02 = inl (1, omega arith, refl)

near_12 : AreNeighbours three 1 2
near_12 = inl (2, omega arith, refl)

near_21 : AreNeighbours three 2 1
near_21 = inr (2, omega arith, refl)

one_or_two : (g : ℕ) → IsLoyal three (0 ∷ []) g → (g ≡ 1) ⊎ (g ≡ 2)
one_or_two g loyal =
    let below : g < 3 = loyal.0 in
    elim (cases_eq g 0) [
      | inl e ↦ absurd (loyal.1 (subst (λ x. Contains (0 ∷ []) x) (sym e) (Contains_here 0 [])))
      | inr ne ↦ elim (cases_eq g 1) [ inl e ↦ inl e | inr other ↦ inr (omega arith) ]
    ]

joined : HasDiameter three (0 ∷ [])
joined a b loyal_a loyal_b = elim (cases_eq a b) [
  | inl e ↦ (0, omega arith, e)
  | inr ne ↦ (1, omega arith, (b, near a b ne (one_or_two a loyal_a) (one_or_two b loyal_b), loyal_b, refl))
] where
  near : (a b : ℕ) → a ≢ b → (a ≡ 1) ⊎ (a ≡ 2) → (b ≡ 1) ⊎ (b ≡ 2) → AreNeighbours three a b
  near a b ne x y = elim x [
    | inl a_one ↦ elim y [ inl b_one ↦ absurd (ne (a_one ∙ sym b_one)) | inr b_two ↦ rw (a_one, b_two) near_12 ]
    | inr a_two ↦ elim y [ inl b_one ↦ rw (a_two, b_one) near_21 | inr b_two ↦ absurd (ne (a_two ∙ sym b_two)) ]
  ]

-- ---- messages that may stand in a run over some orders or values

given_stands : (bound to v : ℕ) → AreNeighbours three 0 to → v < bound → 0 ≢ to → IsWellFormed (over bound three) (given to v)
given_stands bound to v near known other = record {
  on_edge = near;
  chain = record { order_known = known; generals_known = all_one (λ g. g < 3) 0 (omega arith); distinct = one_paired (λ g h. g ≢ h) 0; from_commander = ([], refl) };
  in_time = omega arith;
  signer = ([], refl);
  outside = λ h. elim (Contains_cases 0 to [] h) [ inl e ↦ other e | inr none ↦ Contains_nil to none ];
}

relayed_stands : (bound from to v : ℕ) → AreNeighbours three from to → v < bound → from < 3 → 0 < from → 0 < to → from ≢ to → IsWellFormed (over bound three) (relayed from to v)
relayed_stands bound from to v near known below pos some other = record {
  on_edge = near;
  chain = record {
    order_known = known;
    generals_known = all_more (λ g. g < 3) 0 (from ∷ []) (omega arith) (all_one (λ g. g < 3) from below);
    distinct = two_paired (λ g h. g ≢ h) 0 from (λ e. absurd (omega (arith, e)));
    from_commander = (from ∷ [], refl);
  };
  in_time = omega arith;
  signer = (0 ∷ [], refl);
  outside = λ h. elim (Contains_cases 0 to (from ∷ []) h) [
    | inl e ↦ absurd (omega (arith, e))
    | inr k ↦ elim (Contains_cases from to [] k) [ inl e ↦ other e | inr none ↦ Contains_nil to none ]
  ];
}

one_two : let one : ℕ = 1 in one ≢ 2
one_two e = omega (arith, e)

two_one : let two : ℕ = 2 in two ≢ 1
two_one e = omega (arith, e)

zero_one : let none : ℕ = 0 in none ≢ 1
zero_one e = omega (arith, e)

zero_two : let none : ℕ = 0 in none ≢ 2
zero_two e = omega (arith, e)

all_stand : (t : Message) → Contains four_values t → IsWellFormed (over 4 three) t
all_stand = each (IsWellFormed (over 4 three))
    (given_stands 4 1 0 near_01 (omega arith) zero_one)
    (given_stands 4 1 1 near_01 (omega arith) zero_one)
    (given_stands 4 2 2 near_02 (omega arith) zero_two)
    (given_stands 4 2 3 near_02 (omega arith) zero_two)
    (relayed_stands 4 1 2 0 near_12 (omega arith) (omega arith) (omega arith) (omega arith) one_two)
    (relayed_stands 4 1 2 1 near_12 (omega arith) (omega arith) (omega arith) (omega arith) one_two)
    (relayed_stands 4 2 1 2 near_21 (omega arith) (omega arith) (omega arith) (omega arith) two_one)
    (relayed_stands 4 2 1 3 near_21 (omega arith) (omega arith) (omega arith) (omega arith) two_one)

-- the messages are told apart by sender, receiver and value: 0 and 1 go to 1 from 0 and from 1 to 2, and so on
abbrev Tells : Message → Type 0
Tells t = (t.path ≡ 0 ∷ []) × (t.from ≡ 0) ⊎ (t.path ≡ 0 ∷ t.from ∷ []) × (t.from ≢ 0)

tells : (t : Message) → Contains four_values t → Tells t
tells = each Tells (inl (refl, refl)) (inl (refl, refl)) (inl (refl, refl)) (inl (refl, refl)) (inr (refl, (λ e. omega (arith, e)))) (inr (refl, (λ e. omega (arith, e)))) (inr (refl, (λ e. omega (arith, e)))) (inr (refl, (λ e. omega (arith, e))))

one_each : (x y : Message) → Tells x → Tells y → x.from ≡ y.from → x.to ≡ y.to → x.order ≡ y.order → x ≡ y
one_each x y a b from to order = elim a [
  | inl first ↦ elim b [
    | inl other ↦ same_message x y from to order (first.0 ∙ sym other.0)
    | inr other ↦ absurd (other.1 (sym from ∙ first.1))
  ]
  | inr second ↦ elim b [
    | inl other ↦ absurd (second.1 (from ∙ other.1))
    | inr other ↦ same_message x y from to order (second.0 ∙ ap (λ g. 0 ∷ g ∷ []) from ∙ sym other.0)
  ]
]

is_run : IsRun (over 4 three) four_values
is_run = record { messages = all_stand; once = λ l x y hx hy from to order. one_each x y (tells x hx.0) (tells y hy.0) from to order }

-- ---- names

pair_one : (b i : ℕ) → i ≡ 1 → pair b i ≡ Some b
pair_one b i e = rw e refl

pair_two : (b i : ℕ) → i ≡ 2 → pair b i ≡ Some (b + 1)
pair_two b i e = rw e refl

pair_of : (b i v : ℕ) → pair b i ≡ Some v → ((i ≡ 1) × (v ≡ b)) ⊎ ((i ≡ 2) × (v ≡ b + 1))
pair_of b i v named = elim (cases_eq i 1) [
  | inl one ↦ let e = pair_one b i one in inl (one, cc)
  | inr not_one ↦ elim (cases_eq i 2) [
    | inl two ↦ let e = pair_two b i two in inr (two, cc)
    | inr not_two ↦
        let f : (i == 1) ≡ false = ne_eqb i 1 not_one in
        let h : (i == 2) ≡ false = ne_eqb i 2 not_two in
        let none : pair b i ≡ None = rw (f, h) refl in
        absurd cc
  ]
]

names_ok : (b : ℕ) → b + 1 < 4 → AreNames 4 (pair b)
names_ok b low = record {
  two = λ i v e. elim (pair_of b i v e) [ inl a ↦ inl a.0 | inr a ↦ inr a.0 ];
  apart = λ i j v e f. elim (pair_of b i v e) [
    | inl x ↦ elim (pair_of b j v f) [ inl y ↦ x.0 ∙ sym y.0 | inr y ↦ absurd (omega (arith, x.1, y.1)) ]
    | inr x ↦ elim (pair_of b j v f) [ inl y ↦ absurd (omega (arith, x.1, y.1)) | inr y ↦ x.0 ∙ sym y.0 ]
  ];
  below = λ i v e. elim (pair_of b i v e) [ inl a ↦ omega (arith, low, a.1) | inr a ↦ omega (arith, low, a.1) ];
}

-- ---- one lieutenant, by its number, the other's, and its first value

record Side (g other b : ℕ) : Type 0 where
  some : g ≢ 0
  other_some : other ≢ 0
  apart : g ≢ other
  low : g < 3
  value : b + 1 < 4
  near_0 : AreNeighbours three 0 g
  near : AreNeighbours three g other
  third : (to : ℕ) → to < 3 → to ≢ 0 → to ≢ g → to ≡ other
  given_one : Contains four_values (given g b)
  given_two : Contains four_values (given g (b + 1))
  sent_one : Contains four_values (relayed g other b)
  sent_two : Contains four_values (relayed g other (b + 1))
  sent : (t : Message) → Contains four_values t → t.from ≡ g → (t.to ≡ other) × (t.path ≡ 0 ∷ g ∷ []) × ((t.order ≡ b) ⊎ (t.order ≡ b + 1))
  came : (t : Message) → Contains four_values t → t.to ≡ g → ((t.from ≡ 0) × (t.path ≡ 0 ∷ []) × ((t.order ≡ b) ⊎ (t.order ≡ b + 1))) ⊎ ((length t.path ≡ 2) × (t.order ≢ b) × (t.order ≢ b + 1))

side_1 : Side 1 2 0
side_1 = record {
  some = λ e. omega (arith, e);
  other_some = λ e. omega (arith, e);
  apart = one_two;
  low = omega arith;
  value = omega arith;
  near_0 = near_01;
  near = near_12;
  third = λ to a b c. omega (arith, a, b, c);
  given_one = (0, omega arith, refl);
  given_two = (1, omega arith, refl);
  sent_one = (4, omega arith, refl);
  sent_two = (5, omega arith, refl);
  sent = each (λ t. t.from ≡ 1 → (t.to ≡ 2) × (t.path ≡ 0 ∷ 1 ∷ []) × ((t.order ≡ 0) ⊎ (t.order ≡ 1)))
      (λ e. absurd (zero_one e)) (λ e. absurd (zero_one e)) (λ e. absurd (zero_one e)) (λ e. absurd (zero_one e))
      (λ e. (refl, refl, inl refl)) (λ e. (refl, refl, inr refl)) (λ e. absurd (two_one e)) (λ e. absurd (two_one e));
  came = each (λ t. t.to ≡ 1 → ((t.from ≡ 0) × (t.path ≡ 0 ∷ []) × ((t.order ≡ 0) ⊎ (t.order ≡ 1))) ⊎ ((length t.path ≡ 2) × (t.order ≢ 0) × (t.order ≢ 1)))
      (λ e. inl (refl, refl, inl refl)) (λ e. inl (refl, refl, inr refl)) (λ e. absurd (two_one e)) (λ e. absurd (two_one e))
      (λ e. absurd (two_one e)) (λ e. absurd (two_one e))
      (λ e. inr (refl, (λ z. omega (arith, z)), (λ z. omega (arith, z)))) (λ e. inr (refl, (λ z. omega (arith, z)), (λ z. omega (arith, z))));
}

side_2 : Side 2 1 2
side_2 = record {
  some = λ e. omega (arith, e);
  other_some = λ e. omega (arith, e);
  apart = two_one;
  low = omega arith;
  value = omega arith;
  near_0 = near_02;
  near = near_21;
  third = λ to a b c. omega (arith, a, b, c);
  given_one = (2, omega arith, refl);
  given_two = (3, omega arith, refl);
  sent_one = (6, omega arith, refl);
  sent_two = (7, omega arith, refl);
  sent = each (λ t. t.from ≡ 2 → (t.to ≡ 1) × (t.path ≡ 0 ∷ 2 ∷ []) × ((t.order ≡ 2) ⊎ (t.order ≡ 3)))
      (λ e. absurd (zero_two e)) (λ e. absurd (zero_two e)) (λ e. absurd (zero_two e)) (λ e. absurd (zero_two e))
      (λ e. absurd (one_two e)) (λ e. absurd (one_two e)) (λ e. (refl, refl, inl refl)) (λ e. (refl, refl, inr refl));
  came = each (λ t. t.to ≡ 2 → ((t.from ≡ 0) × (t.path ≡ 0 ∷ []) × ((t.order ≡ 2) ⊎ (t.order ≡ 3))) ⊎ ((length t.path ≡ 2) × (t.order ≢ 2) × (t.order ≢ 3)))
      (λ e. absurd (one_two e)) (λ e. absurd (one_two e)) (λ e. inl (refl, refl, inl refl)) (λ e. inl (refl, refl, inr refl))
      (λ e. inr (refl, (λ z. omega (arith, z)), (λ z. omega (arith, z)))) (λ e. inr (refl, (λ z. omega (arith, z)), (λ z. omega (arith, z))))
      (λ e. absurd (one_two e)) (λ e. absurd (one_two e));
}

module _ (g other b : ℕ) (s : Side g other b) where
  abbrev Mine : Message → Type 0
  Mine t = Contains (own_messages g other) t

  has_given : (i : ℕ) → (i ≡ 1) ⊎ (i ≡ 2) → Mine (given g i)
  has_given i which = elim which [
    | inl one ↦ subst (λ k. Mine (given g k)) (sym one) (0, omega arith, refl)
    | inr two ↦ subst (λ k. Mine (given g k)) (sym two) (1, omega arith, refl)
  ]

  has_relayed : (i : ℕ) → (i ≡ 1) ⊎ (i ≡ 2) → Mine (relayed g other i)
  has_relayed i which = elim which [
    | inl one ↦ subst (λ k. Mine (relayed g other k)) (sym one) (2, omega arith, refl)
    | inr two ↦ subst (λ k. Mine (relayed g other k)) (sym two) (3, omega arith, refl)
  ]

  -- what is g's own is given to it, or is relayed by it
  abbrev IsOneOf : Message → Type 0
  IsOneOf t = ((t ≡ given g t.order) ⊎ (t ≡ relayed g other t.order)) × ((t.order ≡ 1) ⊎ (t.order ≡ 2))

  own_is : (t : Message) → Mine t → IsOneOf t
  own_is = each_own IsOneOf g other (inl refl, inl refl) (inl refl, inr refl) (inr refl, inl refl) (inr refl, inr refl)

  -- of what is its own, g sends what it relays, and what comes to it is given
  own_sent : (t : Message) → Mine t → t.from ≡ g → t ≡ relayed g other t.order
  own_sent t h from = elim (own_is t h).0 [ inl e ↦ absurd (s.some (sym from ∙ ap (λ m. m.from) e)) | inr e ↦ e ]

  own_came : (t : Message) → Mine t → t.to ≡ g → t ≡ given g t.order
  own_came t h to = elim (own_is t h).0 [ inl e ↦ e | inr e ↦ absurd (s.apart (sym to ∙ ap (λ m. m.to) e)) ]

  own_tells : (t : Message) → Mine t → Tells t
  own_tells = each_own Tells g other (inl (refl, refl)) (inl (refl, refl)) (inr (refl, s.some)) (inr (refl, s.some))

  below : (i : ℕ) → (i ≡ 1) ⊎ (i ≡ 2) → i < 3
  below i which = elim which [ inl one ↦ omega (arith, one) | inr two ↦ omega (arith, two) ]

  own_run : IsRun three (own_messages g other)
  own_run = record {
    messages = each_own (IsWellFormed three) g other
        (given_stands 3 g 1 s.near_0 (omega arith) (λ e. s.some (sym e)))
        (given_stands 3 g 2 s.near_0 (omega arith) (λ e. s.some (sym e)))
        (relayed_stands 3 g other 1 s.near (omega arith) s.low (positive g s.some) (positive other s.other_some) s.apart)
        (relayed_stands 3 g other 2 s.near (omega arith) s.low (positive g s.some) (positive other s.other_some) s.apart);
    once = λ l x y hx hy from to order. one_each x y (own_tells x hx.0) (own_tells y hy.0) from to order;
  } where
    positive : (n : ℕ) → n ≢ 0 → 0 < n
    positive n some = omega (arith, some)

  -- orders 1 and 2 are added in round 1, and nothing else is
  arrives : (i : ℕ) → (i ≡ 1) ⊎ (i ≡ 2) → OrderArrives (own_messages g other) g 1 i
  arrives i which = (given g i, ((has_given i which, refl), refl), refl)

  arrival : (l i : ℕ) → OrderArrives (own_messages g other) g l i → (l ≡ 1) × ((i ≡ 1) ⊎ (i ≡ 2)) × (a : Message) × (a.path ≡ 0 ∷ [])
  arrival l i a =
      let t = a.0 in
      let e : t ≡ given g t.order = own_came t a.1.0.0 a.1.1 in
      let path : t.path ≡ 0 ∷ [] = ap (λ m. m.path) e in
      let one : l ≡ 1 = sym a.1.0.1 ∙ ap length path in
      (one, subst (λ k. (k ≡ 1) ⊎ (k ≡ 2)) a.2 (own_is t a.1.0.0).1, t, path)

  adds : (i : ℕ) → (i ≡ 1) ⊎ (i ≡ 2) → Adds (own_messages g other) g 1 i
  adds i which = record { arrives = arrives i which; new = λ k less a. omega (arith, less, (arrival k i a).0) }

  accepts : (i : ℕ) → (i ≡ 1) ⊎ (i ≡ 2) → Accepts three (own_messages g other) g i
  accepts i which = (1, omega arith, adds i which)

  full : IsFull (own_messages g other) g 2
  full = (1, 2, 1, 1, one_two, omega arith, omega arith, arrives 1 (inl refl), arrives 2 (inr refl))

  -- g relays both, as the algorithm says
  abbrev relays : ℕ → List ℕ
  relays i = 0 ∷ []

  relays_it : (t : Message) → Mine t → t.from ≡ g → IsRelayed three (own_messages g other) g 1 relays t
  relays_it t h from =
      let e : t ≡ relayed g other t.order = own_sent t h from in
      let w = own_run.messages t h in
      record { added = adds t.order (own_is t h).1; longer = ap (λ m. m.path) e; neighbour = subst (λ x. AreNeighbours three x t.to) from w.on_edge; outside = w.outside }

  it_is_relayed : (t : Message) → t.from ≡ g → IsRelayed three (own_messages g other) g 1 relays t → Mine t
  it_is_relayed t from r =
      let which = (arrival 1 t.order r.added.arrives).1 in
      let out : (x : ℕ) → Contains (0 ∷ g ∷ []) x → t.to ≢ x = λ x h e. r.outside (subst (λ p. Contains p t.to) (sym r.longer) (subst (λ y. Contains (0 ∷ g ∷ []) y) (sym e) h)) in
      let to : t.to ≡ other = s.third t.to (neighbour_below g t.to r.neighbour) (out 0 (0, omega arith, refl)) (out g (1, omega arith, refl)) in
      subst Mine (sym (same_message t (relayed g other t.order) from to refl r.longer)) (has_relayed t.order which)

  in_round_2 : (t : Message) → Mine t → t.from ≡ g → length t.path ≡ 2
  in_round_2 t h from = ap (λ m. length m.path) (own_sent t h from)

  follows : LieutenantFollows three (own_messages g other) g relays
  follows = record {
    picks = λ l i added.
        let a = added.arrives in
        (a.0, a.1, a.2, ap (λ m. m.path) (own_came a.0 a.1.0.0 a.1.1));
    silent = λ t sent from. omega (arith, sent.1, in_round_2 t sent.0 from);
    sends = λ l t some low from.
        let one : 1 ≡ l = omega arith in (
          (λ sent. subst (λ j. IsRelayed three (own_messages g other) g j relays t) one (relays_it t sent.0 from)),
          (λ r.
              let h = it_is_relayed t from (subst (λ j. IsRelayed three (own_messages g other) g j relays t) (sym one) r) in
              (h, omega (arith, in_round_2 t h from))),
        );
  }

  -- ---- the view

  value_of : (i v : ℕ) → pair b i ≡ Some v → (v ≡ b) ⊎ (v ≡ b + 1)
  value_of i v named = elim (pair_of b i v named) [ inl one ↦ inl one.1 | inr two ↦ inr two.1 ]

  order_of : (i v : ℕ) → pair b i ≡ Some v → (i ≡ 1) ⊎ (i ≡ 2)
  order_of i v named = elim (pair_of b i v named) [ inl one ↦ inl one.0 | inr two ↦ inr two.0 ]

  run_given : (v : ℕ) → (v ≡ b) ⊎ (v ≡ b + 1) → Contains four_values (given g v)
  run_given v which = elim which [
    | inl first ↦ subst (λ x. Contains four_values (given g x)) (sym first) s.given_one
    | inr second ↦ subst (λ x. Contains four_values (given g x)) (sym second) s.given_two
  ]

  run_relayed : (v : ℕ) → (v ≡ b) ⊎ (v ≡ b + 1) → Contains four_values (relayed g other v)
  run_relayed v which = elim which [
    | inl first ↦ subst (λ x. Contains four_values (relayed g other x)) (sym first) s.sent_one
    | inr second ↦ subst (λ x. Contains four_values (relayed g other x)) (sym second) s.sent_two
  ]

  named_value : (v : ℕ) → (v ≡ b) ⊎ (v ≡ b + 1) → (i : ℕ) × (pair b i ≡ Some v)
  named_value v which = elim which [
    | inl first ↦ (1, pair_one b 1 refl ∙ ap Some (sym first))
    | inr second ↦ (2, pair_two b 2 refl ∙ ap Some (sym second))
  ]

  sends_both : (m : Message) (i v : ℕ) → m.from ≡ g → pair b i ≡ Some v → Mine (about i m) ↔ Contains four_values (about v m)
  sends_both m i v from named = (
    (λ h.
        let e : about i m ≡ relayed g other i = own_sent (about i m) h from in
        let is : about v m ≡ relayed g other v = same_message (about v m) (relayed g other v) from (ap (λ t. t.to) e) refl (ap (λ t. t.path) e) in
        subst (λ t. Contains four_values t) (sym is) (run_relayed v (value_of i v named))),
    (λ h.
        let a = s.sent (about v m) h from in
        let is : about i m ≡ relayed g other i = same_message (about i m) (relayed g other i) from a.0 refl a.1 in
        subst Mine (sym is) (has_relayed i (order_of i v named))),
  )

  comes_both : (m : Message) (i v : ℕ) → m.to ≡ g → pair b i ≡ Some v → Mine (about i m) ↔ Contains four_values (about v m)
  comes_both m i v to named = (
    (λ h.
        let e : about i m ≡ given g i = own_came (about i m) h to in
        let is : about v m ≡ given g v = same_message (about v m) (given g v) (ap (λ t. t.from) e) to refl (ap (λ t. t.path) e) in
        subst (λ t. Contains four_values t) (sym is) (run_given v (value_of i v named))),
    (λ h. elim (s.came (about v m) h to) [
      | inl a ↦
          let is : about i m ≡ given g i = same_message (about i m) (given g i) a.0 to refl a.1 in
          subst Mine (sym is) (has_given i (order_of i v named))
      | inr a ↦ absurd (elim (value_of i v named) [ inl first ↦ a.1 first | inr second ↦ a.2 second ])
    ]),
  )

  named_order : (i : ℕ) → (i ≡ 1) ⊎ (i ≡ 2) → (v : ℕ) × (pair b i ≡ Some v)
  named_order i which = elim which [ inl one ↦ (b, pair_one b i one) | inr two ↦ (b + 1, pair_two b i two) ]

  follows_named : FollowsNamed 4 three four_values g (record { names = pair b; mine = own_messages g other; conduct = Relays relays })
  follows_named = record {
    names = names_ok b s.value;
    own = record {};
    view = record {
      sent = sends_both;
      arrived = comes_both;
      orders_named = λ m h end. named_order m.order (own_is m h).1;
      sends_named = λ m h from. named_value m.order (s.sent m h from).2;
    };
    run_of_net = own_run;
    follows = (s.some, follows);
    room = λ l v a. elim (s.came a.0 a.1.0.0 a.1.1) [
      | inl x ↦ inl (named_value v (subst (λ w. (w ≡ b) ⊎ (w ≡ b + 1)) a.2 x.2))
      | inr x ↦ let two : 2 ≡ l = sym x.0 ∙ a.1.0.1 in inr (subst (λ k. IsFull (own_messages g other) g k) two full)
    ];
  }

  -- ---- the decision

  decides : LieutenantDecides three (own_messages g other) g (1 ∷ 2 ∷ []) 0
  decides = record {
    set = record {
      ascending = two_paired (λ x y. x < y) 1 2 (omega arith);
      members = λ i. (
        (λ h. elim (Contains_cases 1 i (2 ∷ []) h) [
          | inl one ↦ accepts i (inl (sym one))
          | inr more ↦ elim (Contains_cases 2 i [] more) [ inl two ↦ accepts i (inr (sym two)) | inr none ↦ absurd (Contains_nil i none) ]
        ]),
        (λ a. elim (arrival a.0 i a.2.arrives).1 [
          | inl one ↦ subst (λ k. Contains (1 ∷ 2 ∷ []) k) (sym one) (0, omega arith, refl)
          | inr two ↦ subst (λ k. Contains (1 ∷ 2 ∷ []) k) (sym two) (1, omega arith, refl)
        ]),
      );
    };
    chosen = refl;
  }

-- ---- the run as a whole

rest_follows : (g : ℕ) → IsLoyal three (0 ∷ []) g → FollowsNamed 4 three four_values g (part_of g)
rest_follows g loyal = elim (one_or_two g loyal) [
  | inl e ↦ rw e (follows_named 1 2 0 side_1)
  | inr e ↦ rw e (follows_named 2 1 2 side_2)
]

nobody : All (λ g. IsLoyal three (0 ∷ []) g → ⊥) (0 ∷ [])
nobody = all_one (λ g. IsLoyal three (0 ∷ []) g → ⊥) 0 (λ loyal. loyal.1 (Contains_here 0 []))

is_signed : IsNamedRun 4 three (0 ∷ []) four_values part_of
is_signed = record {
  run_of_net = is_run;
  follows = rest_follows;
  derivable = λ t h faulty. elim (Contains_cases 0 t.from [] faulty) [
    | inl e ↦ inl (elim (tells t h) [
      | inl first ↦ subst (λ p. All (λ g. IsLoyal three (0 ∷ []) g → ⊥) p) (sym first.0) nobody
      | inr second ↦ absurd (second.1 (sym e))
    ])
    | inr none ↦ absurd (Contains_nil t.from none)
  ];
}

pub premises_met : Premises other_names_case
premises_met = record { only = refl; signed = is_signed; few = omega arith; diameter = joined }

pub names_differ : NamesDiffer
names_differ = record {
  taken = λ g i loyal which. elim (one_or_two g loyal.0) [
    | inl e ↦ rw e (accepts 1 2 0 side_1 i which)
    | inr e ↦ rw e (accepts 2 1 2 side_2 i which)
  ];
  apart = λ i j v a b. elim (pair_of 0 i v a) [
    | inl x ↦ elim (pair_of 2 j v b) [ inl y ↦ omega (arith, x.1, y.1) | inr y ↦ omega (arith, x.1, y.1) ]
    | inr x ↦ elim (pair_of 2 j v b) [ inl y ↦ omega (arith, x.1, y.1) | inr y ↦ omega (arith, x.1, y.1) ]
  ];
  retreat = λ g loyal. elim (one_or_two g loyal.0) [
    | inl e ↦ rw e (1 ∷ 2 ∷ [], 0, decides 1 2 0 side_1, refl)
    | inr e ↦ rw e (1 ∷ 2 ∷ [], 0, decides 2 1 2 side_2, refl)
  ];
}

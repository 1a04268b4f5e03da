-- The run in which a faulty commander gives two orders: its messages one by one, and what each lieutenant adds.
use Rattle.std.proofs.Common.{◌≡◌, ◌≢◌, ℕ, ◌+◌, ◌<◌, ◌≤◌, ◌↔◌, ◌⊎◌, inl, inr, List, [], ◌∷◌, ◌++◌, length, Contains, All, AllPairs, refl, sym, ap, ◌∙◌, subst, arith}
use Rattle.std.proofs.lemmas.Bool.{cases_eq}
use Rattle.std.proofs.lemmas.List.Elements.{All-contains}
use Rattle.std.proofs.lemmas.List.Kept.{AllPairs-cons}
use Rattle.gen_types.proofs.Lists.{Contains_cases, Contains_nil, Contains_here, All_of}
use Rattle.gen_net.specs.Network.{IsNetwork, IsLoyal, IsBefore, AreNeighbours}
use Rattle.gen_net.specs.declared.message.Message.{Message}
use Rattle.gen_net.specs.Run.{IsWellFormed, IsRun, Adds, Accepts, OrderArrives}
use Rattle.gen_net.specs.Follows.{IsRelayed, LieutenantFollows, Follows}
use Rattle.gen_net.specs.Signed.{IsSignedRun}
use Rattle.gen_net.specs.Walks.{HasDiameter}
use Rattle.gen_scenario.specs.Theorem.{Premises, IsLoyalLieutenant}
use Rattle.gen_scenario.specs.TwoOrders.{three, zero_to_1, one_to_2, zero_from_1, one_from_2, two_orders, taken, two_orders_case, BothAccepted}
use Rattle.gen_scenario.proofs.Agree.{agreement}

-- ---- lists of a few elements

all_one : {X : Type 0} (P : X → Type 0) (a : X) → P a → All P (a ∷ [])
all_one P a p = All_of P (a ∷ []) (λ x h. elim (Contains_cases a x [] h) [ inl e ↦ subst P e p | inr none ↦ absurd (Contains_nil x none) ])

all_more : {X : Type 0} (P : X → Type 0) (a : X) (xs : List X) → P a → All P xs → All P (a ∷ xs)
all_more P a xs p all = All_of P (a ∷ xs) (λ x h. elim (Contains_cases a x xs h) [ inl e ↦ subst P e p | inr k ↦ All-contains P xs x all k ])

one_paired : {X : Type 0} (R : X → X → Type 0) (a : X) → AllPairs R (a ∷ [])
one_paired R a i j x l m = absurd (omega arith)

two_paired : {X : Type 0} (R : X → X → Type 0) (a b : X) → R a b → AllPairs R (a ∷ b ∷ [])
two_paired R a b r = AllPairs-cons R a (b ∷ []) (all_one (R a) b r) (one_paired R b)

-- what holds of each of the four messages holds of every message of the run
each : (P : Message → Type 0) → P zero_to_1 → P one_to_2 → P zero_from_1 → P one_from_2 → (t : Message) → Contains two_orders t → P t
each P a b c d t h = All-contains P two_orders t (all_more P zero_to_1 (one_to_2 ∷ zero_from_1 ∷ one_from_2 ∷ []) a (all_more P one_to_2 (zero_from_1 ∷ one_from_2 ∷ []) b (all_more P zero_from_1 (one_from_2 ∷ []) c (all_one P one_from_2 d)))) h

-- ---- the network

abbrev Ascends : ℕ × ℕ → Type 0
Ascends e = (e.0 < e.1) × (e.1 < 3)

edge_ends : (a b : ℕ) → Contains three.edges (a, b) → (a < b) × (b < 3)
edge_ends a b h = All-contains Ascends three.edges (a, b) (all_more Ascends (0, 1) ((0, 2) ∷ (1, 2) ∷ []) (omega arith, omega arith) (all_more Ascends (0, 2) ((1, 2) ∷ []) (omega arith, omega arith) (all_one Ascends (1, 2) (omega arith, omega arith)))) h

pub three_is_network : IsNetwork three
three_is_network = record {
  ranges = record {
    some_generals = omega arith;
    few_generals = omega arith;
    few_traitors = omega arith;
    some_diameter = omega arith;
    few_diameter = omega arith;
    few_rounds = omega arith;
    some_orders = omega arith;
    few_orders = omega arith;
  };
  edges = record { inside = edge_ends; ascending = ascending };
} where
  ascending : AllPairs IsBefore three.edges
  ascending = AllPairs-cons IsBefore (0, 1) ((0, 2) ∷ (1, 2) ∷ []) (all_more (IsBefore (0, 1)) (0, 2) ((1, 2) ∷ []) (inr (refl, omega arith)) (all_one (IsBefore (0, 1)) (1, 2) (inl (omega arith)))) (two_paired IsBefore (0, 2) (1, 2) (inl (omega arith)))

neighbour_below : (a b : ℕ) → AreNeighbours three a b → b < 3
neighbour_below a b near = elim near [
  | inl h ↦ (edge_ends a b h).1
  | inr h ↦ let ends = edge_ends b a h in omega (arith, ends.0, ends.1)
]

-- a lieutenant of the rest is general 1 or general 2
one_or_two : (g : ℕ) → IsLoyal three (0 ∷ []) g → (g ≡ 1) ⊎ (g ≡ 2)
one_or_two g loyal =
    let below : g < 3 = loyal.0 in
    elim (cases_eq g 0) [
      | inl e ↦ absurd (loyal.1 (subst (λ x. Contains (0 ∷ []) x) (sym e) (Contains_here 0 [])))
      | inr ne ↦ elim (cases_eq g 1) [ inl e ↦ inl e | inr other ↦ inr (omega arith) ]
    ]

far_apart : HasDiameter three (0 ∷ [])
far_apart a b loyal_a loyal_b = elim (cases_eq a b) [
  | inl e ↦ (0, omega arith, e)
  | inr ne ↦ (1, omega arith, (b, near a b ne (one_or_two a loyal_a) (one_or_two b loyal_b), loyal_b, refl))
] where
  near : (a b : ℕ) → a ≢ b → (a ≡ 1) ⊎ (a ≡ 2) → (b ≡ 1) ⊎ (b ≡ 2) → AreNeighbours three a b
  near a b ne x y = elim x [
    | inl a_one ↦ elim y [ inl b_one ↦ absurd (ne (a_one ∙ sym b_one)) | inr b_two ↦ rw (a_one, b_two) (inl (2, omega arith, refl)) ]
    | inr a_two ↦ elim y [ inl b_one ↦ rw (a_two, b_one) (inr (2, omega arith, refl)) | inr b_two ↦ absurd (ne (a_two ∙ sym b_two)) ]
  ]

-- ---- the run

first_well_formed : (to order : ℕ) → AreNeighbours three 0 to → order < 2 → 0 ≢ to → IsWellFormed three (record { from = 0; to = to; order = order; path = 0 ∷ [] })
first_well_formed to order near known other = record {
  on_edge = near;
  chain = record { order_known = known; generals_known = all_one (λ g. g < 3) 0 (omega arith); distinct = one_paired (λ g h. g ≢ h) 0; from_commander = ([], refl) };
  in_time = omega arith;
  signer = ([], refl);
  outside = λ h. elim (Contains_cases 0 to [] h) [ inl e ↦ other e | inr none ↦ Contains_nil to none ];
}

second_well_formed : (from to order : ℕ) → AreNeighbours three from to → order < 2 → from < 3 → 0 < from → 0 < to → from ≢ to → IsWellFormed three (record { from = from; to = to; order = order; path = 0 ∷ from ∷ [] })
second_well_formed from to order near known below pos some other = record {
  on_edge = near;
  chain = record {
    order_known = known;
    generals_known = all_more (λ g. g < 3) 0 (from ∷ []) (omega arith) (all_one (λ g. g < 3) from below);
    distinct = two_paired (λ g h. g ≢ h) 0 from (λ e. absurd (omega (arith, e)));
    from_commander = (from ∷ [], refl);
  };
  in_time = omega arith;
  signer = (0 ∷ [], refl);
  outside = λ h. elim (Contains_cases 0 to (from ∷ []) h) [
    | inl e ↦ absurd (omega (arith, e))
    | inr k ↦ elim (Contains_cases from to [] k) [ inl e ↦ other e | inr none ↦ Contains_nil to none ]
  ];
}

well_formed : (t : Message) → Contains two_orders t → IsWellFormed three t
well_formed = each (IsWellFormed three)
    (first_well_formed 1 0 (inl (0, omega arith, refl)) (omega arith) (λ e. absurd (omega (arith, e))))
    (first_well_formed 2 1 (inl (1, omega arith, refl)) (omega arith) (λ e. absurd (omega (arith, e))))
    (second_well_formed 1 2 0 (inl (2, omega arith, refl)) (omega arith) (omega arith) (omega arith) (omega arith) (λ e. absurd (omega (arith, e))))
    (second_well_formed 2 1 1 (inr (2, omega arith, refl)) (omega arith) (omega arith) (omega arith) (omega arith) (λ e. absurd (omega (arith, e))))

-- the messages are told apart by sender and receiver
abbrev Alike : Message → Message → Type 0
Alike x y = x.from ≡ y.from → x.to ≡ y.to → x ≡ y

one_each : (x : Message) → Contains two_orders x → (y : Message) → Contains two_orders y → Alike x y
one_each = each (λ x. (y : Message) → Contains two_orders y → Alike x y)
    (each (Alike zero_to_1) (λ a b. refl) (λ a b. absurd (omega (arith, b))) (λ a b. absurd (omega (arith, a))) (λ a b. absurd (omega (arith, a))))
    (each (Alike one_to_2) (λ a b. absurd (omega (arith, b))) (λ a b. refl) (λ a b. absurd (omega (arith, a))) (λ a b. absurd (omega (arith, a))))
    (each (Alike zero_from_1) (λ a b. absurd (omega (arith, a))) (λ a b. absurd (omega (arith, a))) (λ a b. refl) (λ a b. absurd (omega (arith, a))))
    (each (Alike one_from_2) (λ a b. absurd (omega (arith, a))) (λ a b. absurd (omega (arith, a))) (λ a b. absurd (omega (arith, a))) (λ a b. refl))

is_run : IsRun three two_orders
is_run = record { messages = well_formed; once = λ l x y hx hy from to order. one_each x hx.0 y hy.0 from to }

-- ---- who adds what

abbrev IsIn : Message → Type 0
IsIn t = Contains two_orders t

no_round_0 : (g v : ℕ) → OrderArrives two_orders g 0 v → ⊥
no_round_0 g v a =
    let some : 1 ≤ length a.0.path = each (λ t. 1 ≤ length t.path) (omega arith) (omega arith) (omega arith) (omega arith) a.0 a.1.0.0 in
    omega (arith, some, a.1.0.1)

adds_first : (t : Message) → IsIn t → length t.path ≡ 1 → Adds two_orders t.to 1 t.order
adds_first t h one = record {
  arrives = (t, ((h, one), refl), refl);
  new = λ k lt a. let zero : k ≡ 0 = omega arith in no_round_0 t.to t.order (subst (λ j. OrderArrives two_orders t.to j t.order) zero a);
}

adds_second : (t : Message) → IsIn t → length t.path ≡ 2 → (OrderArrives two_orders t.to 1 t.order → ⊥) → Adds two_orders t.to 2 t.order
adds_second t h two new = record {
  arrives = (t, ((h, two), refl), refl);
  new = λ k lt a. elim (cases_eq k 0) [
    | inl zero ↦ no_round_0 t.to t.order (subst (λ j. OrderArrives two_orders t.to j t.order) zero a)
    | inr some ↦ let one : k ≡ 1 = omega arith in new (subst (λ j. OrderArrives two_orders t.to j t.order) one a)
  ];
}

not_before_1 : OrderArrives two_orders 1 1 1 → ⊥
not_before_1 a = each (λ t. length t.path ≡ 1 → t.to ≡ 1 → t.order ≡ 1 → ⊥) (λ l g v. omega (arith, v)) (λ l g v. omega (arith, g)) (λ l g v. omega (arith, l)) (λ l g v. omega (arith, l)) a.0 a.1.0.0 a.1.0.1 a.1.1 a.2

in_1 : IsIn zero_to_1
in_1 = (0, omega arith, refl)

in_2 : IsIn one_to_2
in_2 = (1, omega arith, refl)

in_3 : IsIn zero_from_1
in_3 = (2, omega arith, refl)

in_4 : IsIn one_from_2
in_4 = (3, omega arith, refl)

both_accepted_1 : (v : ℕ) → Accepts three two_orders 1 v ↔ (v < 2)
both_accepted_1 v = (
  (λ a. let t = a.2.arrives.0 in let known : t.order < 2 = (well_formed t a.2.arrives.1.0.0).chain.order_known in omega (arith, known, a.2.arrives.2)),
  (λ below. elim (cases_eq v 0) [
    | inl e ↦ (1, omega arith, rw e (adds_first zero_to_1 in_1 refl))
    | inr ne ↦ let e : v ≡ 1 = omega arith in (2, omega arith, rw e (adds_second one_from_2 in_4 refl not_before_1))
  ]),
)

-- ---- the lieutenants follow

-- what a lieutenant takes is the path of each message to him
takes : (t : Message) → IsIn t → t.path ≡ taken t.to t.order
takes = each (λ t. t.path ≡ taken t.to t.order) refl refl refl refl

-- General g gets his order from the commander alone in round 1, and tells the other lieutenant in round 2.
module _ (g other v : ℕ) (in_first : IsIn (record { from = 0; to = g; order = v; path = 0 ∷ [] })) (in_second : IsIn (record { from = g; to = other; order = v; path = 0 ∷ g ∷ [] })) (pos : 0 < g) (direct : taken g v ≡ 0 ∷ []) (only_first : (t : Message) → IsIn t → length t.path ≡ 1 → t.to ≡ g → t.order ≡ v) (only_second : (t : Message) → IsIn t → t.from ≡ g → record { from = g; to = other; order = v; path = 0 ∷ g ∷ [] } ≡ t) (other_is : (x : ℕ) → x < 3 → x ≢ 0 → x ≢ g → x ≡ other) where
  first : Message
  first = record { from = 0; to = g; order = v; path = 0 ∷ [] }

  told : (l : ℕ) (t : Message) → 0 < l → l < 2 → t.from ≡ g → IsIn t → length t.path ≡ l + 1 → IsRelayed three two_orders g l (taken g) t
  unfolding first
  told l t some low e h long =
      let same = only_second t h e in
      let one : 1 ≡ l = omega arith in
      let m = well_formed t h in
      let order : v ≡ t.order = ap (λ (x : Message). x.order) same in
      let path : 0 ∷ g ∷ [] ≡ t.path = ap (λ (x : Message). x.path) same in
      record {
        added = subst (λ j. Adds two_orders g j t.order) one (subst (λ w. Adds two_orders g 1 w) order (adds_first first in_first refl));
        longer = sym path ∙ sym (ap (λ w. taken g w ++ g ∷ []) (sym order) ∙ ap (λ p. p ++ g ∷ []) direct);
        neighbour = subst (λ x. AreNeighbours three x t.to) e m.on_edge;
        outside = m.outside;
      }

  is_told : (l : ℕ) (t : Message) → 0 < l → l < 2 → t.from ≡ g → IsRelayed three two_orders g l (taken g) t → IsIn t × (length t.path ≡ l + 1)
  is_told l t some low e relayed =
      let one : l ≡ 1 = omega arith in
      let adds = relayed.added in
      let u = adds.arrives.0 in
      let order : t.order ≡ v = sym adds.arrives.2 ∙ only_first u adds.arrives.1.0.0 (adds.arrives.1.0.1 ∙ one) adds.arrives.1.1 in
      let whole : t.path ≡ 0 ∷ g ∷ [] = relayed.longer ∙ ap (λ w. taken g w ++ g ∷ []) order ∙ ap (λ p. p ++ g ∷ []) direct in
      let away : (x : ℕ) → Contains (0 ∷ g ∷ []) x → t.to ≢ x = λ x k same. relayed.outside (subst (λ p. Contains p t.to) (sym whole) (subst (λ y. Contains (0 ∷ g ∷ []) y) (sym same) k)) in
      let to : t.to ≡ other = other_is t.to (neighbour_below g t.to relayed.neighbour) (away 0 (0, omega arith, refl)) (away g (1, omega arith, refl)) in
      let same : record { from = g; to = other; order = v; path = 0 ∷ g ∷ [] } ≡ t = (λ i. record { from = sym e i; to = sym to i; order = sym order i; path = sym whole i }) in
      let two : length t.path ≡ 2 = ap length whole in
      (subst IsIn same in_second, omega (arith, two, one))

  lieutenant_follows : LieutenantFollows three two_orders g (taken g)
  lieutenant_follows = record {
    picks = λ l w adds.
        let t = adds.arrives.0 in
        let a = adds.arrives.1 in
        (t, a, adds.arrives.2, takes t a.0.0 ∙ ap (λ x. taken x t.order) a.1 ∙ ap (taken g) adds.arrives.2);
    silent = λ t sent e.
        let two : length t.path ≡ 2 = ap (λ (x : Message). length x.path) (sym (only_second t sent.0 e)) in
        absurd (omega (arith, two, sent.1));
    sends = λ l t some low e. (
      (λ sent. told l t some low e sent.0 sent.1),
      (λ h. is_told l t some low e h),
    );
  }

follows_1 : LieutenantFollows three two_orders 1 (taken 1)
follows_1 = lieutenant_follows 1 2 0 in_1 in_3 (omega arith) refl
    (each (λ t. length t.path ≡ 1 → t.to ≡ 1 → t.order ≡ 0) (λ l g. refl) (λ l g. absurd (omega (arith, g))) (λ l g. absurd (omega (arith, l))) (λ l g. absurd (omega (arith, l))))
    (each (λ t. t.from ≡ 1 → zero_from_1 ≡ t) (λ e. absurd (omega (arith, e))) (λ e. absurd (omega (arith, e))) (λ e. refl) (λ e. absurd (omega (arith, e))))
    (λ x below nz ne. omega arith)

follows_2 : LieutenantFollows three two_orders 2 (taken 2)
follows_2 = lieutenant_follows 2 1 1 in_2 in_4 (omega arith) refl
    (each (λ t. length t.path ≡ 1 → t.to ≡ 2 → t.order ≡ 1) (λ l g. absurd (omega (arith, g))) (λ l g. refl) (λ l g. absurd (omega (arith, l))) (λ l g. absurd (omega (arith, l))))
    (each (λ t. t.from ≡ 2 → one_from_2 ≡ t) (λ e. absurd (omega (arith, e))) (λ e. absurd (omega (arith, e))) (λ e. absurd (omega (arith, e))) (λ e. refl))
    (λ x below nz ne. omega arith)

rest_follows : (g : ℕ) → IsLoyal three (0 ∷ []) g → Follows three two_orders g (two_orders_case.conducts g)
rest_follows g loyal = elim (one_or_two g loyal) [
  | inl e ↦ rw e ((λ z. absurd (omega (arith, z))), follows_1)
  | inr e ↦ rw e ((λ z. absurd (omega (arith, z))), follows_2)
]

is_signed : IsSignedRun three (0 ∷ []) two_orders two_orders_case.conducts
is_signed = record {
  run_of_net = is_run;
  follows = rest_follows;
  derivable = λ t h faulty. elim (Contains_cases 0 t.from [] faulty) [
    | inl e ↦ inl (each (λ x. 0 ≡ x.from → All (λ g. IsLoyal three (0 ∷ []) g → ⊥) x.path) (λ z. nobody) (λ z. nobody) (λ z. absurd (omega (arith, z))) (λ z. absurd (omega (arith, z))) t h e)
    | inr none ↦ absurd (Contains_nil t.from none)
  ];
} where
  nobody : All (λ g. IsLoyal three (0 ∷ []) g → ⊥) (0 ∷ [])
  nobody = all_one (λ g. IsLoyal three (0 ∷ []) g → ⊥) 0 (λ loyal. loyal.1 (Contains_here 0 []))

pub premises_met : Premises two_orders_case
premises_met = record { signed = is_signed; few = omega arith; diameter = far_apart }

pub both_accepted : BothAccepted
both_accepted g v loyal =
    let one : IsLoyalLieutenant two_orders_case 1 = ((omega arith, (λ h. elim (Contains_cases 0 1 [] h) [ inl e ↦ absurd (omega (arith, e)) | inr none ↦ Contains_nil 1 none ])), λ e. absurd (omega (arith, e))) in
    let alike = agreement two_orders_case premises_met g 1 v loyal one in
    ((λ a. (both_accepted_1 v).0 (alike.0 a)), (λ below. alike.1 ((both_accepted_1 v).1 below)))

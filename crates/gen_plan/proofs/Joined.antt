-- Walks of the rest, one edge more at a time.
use Rattle.std.proofs.Common.{◌≡◌, ℕ, zero, suc, ◌+◌, ◌<◌, ◌≤◌, ◌⊎◌, inl, inr, List, [], ◌∷◌, Contains, refl, sym, subst, arith}
use Rattle.std.proofs.lemmas.Bool.{cases_eq, cases_order}
use Rattle.gen_net.specs.Network.{Network, AreNeighbours, IsLoyal, IsNetwork}
use Rattle.gen_net.specs.Walks.{IsWalk}
use Rattle.gen_types.specs.Ascending.{IsListOf}
use Rattle.gen_plan.specs.Plans.{IsJoinedBy, AreJoinedBy, IsLeastApart}
use Rattle.gen_plan.specs.Loops.Search.{IsStep, IsBehindApart, IsLeastApartFrom}
use Rattle.gen_types.proofs.Lists.{decide_contains}
use Rattle.gen_plan.proofs.Sets.{listed_as, listed_none}

pub turned_edge : (net : Network) (a b : ℕ) → AreNeighbours net a b → AreNeighbours net b a
turned_edge net a b near = elim near [ inl e ↦ inr e | inr e ↦ inl e ]

-- neighbours are generals of the network
pub near_below : (net : Network) → IsNetwork net → (a b : ℕ) → AreNeighbours net a b → b < net.generals
near_below net ok a b near = elim near [
  | inl e ↦ (ok.edges.inside a b e).1
  | inr e ↦ let h = ok.edges.inside b a e in omega (arith, h.0, h.1)
]

one_edge_more : (net : Network) (faulty : List ℕ) (edges a b c : ℕ) → IsWalk net faulty edges a b → AreNeighbours net b c → IsLoyal net faulty c → IsWalk net faulty (suc edges) a c
one_edge_more net faulty zero a b c w near loyal = (c, subst (λ x. AreNeighbours net x c) (sym w) near, loyal, refl)
one_edge_more net faulty (suc edges) a b c w near loyal = (w.0, w.1, w.2, one_edge_more net faulty edges w.0 b c w.3 near loyal)

turned_walk : (net : Network) (faulty : List ℕ) (edges a b : ℕ) → IsLoyal net faulty a → IsWalk net faulty edges a b → IsWalk net faulty edges b a
turned_walk net faulty zero a b loyal w = sym w
turned_walk net faulty (suc edges) a b loyal w = one_edge_more net faulty edges b w.0 a (turned_walk net faulty edges w.0 b w.2 w.3) (turned_edge net a w.0 w.1) loyal

pub turned : (net : Network) (faulty : List ℕ) (most a b : ℕ) → IsLoyal net faulty a → IsJoinedBy net faulty most a b → IsJoinedBy net faulty most b a
turned net faulty most a b loyal h = (h.0, h.1, turned_walk net faulty h.0 a b loyal h.2)

-- one step, if it may be taken
pub stepped : (net : Network) (faulty set xs : List ℕ) (via : ℕ) → IsListOf xs (AreNeighbours net via) → Contains set via → (Contains faulty via → ⊥) → IsListOf xs (λ a. IsStep net faulty set a via)
stepped net faulty set xs via list member loyal = listed_as xs (AreNeighbours net via) (λ a. IsStep net faulty set a via) list (λ a. (
  (λ near. record { near = turned_edge net via a near; member = member; loyal = loyal }),
  (λ step. turned_edge net a via step.near),
))

-- the steps by the generals below a number
abbrev pub StepsBelow : Network → List ℕ → List ℕ → ℕ → ℕ → Type 0
StepsBelow net faulty set number a = (via : ℕ) × (via < number) × IsStep net faulty set a via

pub no_steps : (net : Network) (faulty set xs : List ℕ) → xs ≡ [] → IsListOf xs (StepsBelow net faulty set 0)
no_steps net faulty set xs e = listed_none xs (StepsBelow net faulty set 0) e (λ a h. absurd (omega (arith, h.1)))

pub step_more : (net : Network) (faulty set steps more both : List ℕ) (number : ℕ)
    → IsListOf steps (StepsBelow net faulty set number) → IsListOf more (λ a. IsStep net faulty set a number)
    → IsListOf both (λ a. Contains steps a ⊎ Contains more a)
    → IsListOf both (StepsBelow net faulty set (number + 1))
step_more net faulty set steps more both number so one list =
    listed_as both (λ a. Contains steps a ⊎ Contains more a) (StepsBelow net faulty set (number + 1)) list (λ a. (
      (λ h. elim h [
        | inl old ↦ let s = (so.members a).0 old in (s.0, omega (arith, s.1), s.2)
        | inr new ↦ (number, omega arith, (one.members a).0 new)
      ]),
      (λ s. elim (cases_eq s.0 number) [
        | inl e ↦ inr ((one.members a).1 (subst (λ via. IsStep net faulty set a via) e s.2))
        | inr ne ↦ inl ((so.members a).1 (s.0, omega (arith, s.1), s.2))
      ]),
    ))

-- a general by whom no step is taken adds none
pub step_passed : (net : Network) (faulty set steps : List ℕ) (number : ℕ) → IsListOf steps (StepsBelow net faulty set number)
    → ((a : ℕ) → IsStep net faulty set a number → ⊥) → IsListOf steps (StepsBelow net faulty set (number + 1))
step_passed net faulty set steps number so none = listed_as steps (StepsBelow net faulty set number) (StepsBelow net faulty set (number + 1)) so (λ a. (
  (λ s. (s.0, omega (arith, s.1), s.2)),
  (λ s. elim (cases_eq s.0 number) [
    | inl e ↦ absurd (none a (subst (λ via. IsStep net faulty set a via) e s.2))
    | inr ne ↦ (s.0, omega (arith, s.1), s.2)
  ]),
))

pub all_steps : (net : Network) → IsNetwork net → (faulty set steps both : List ℕ) (number : ℕ) → net.generals ≤ number
    → IsListOf steps (StepsBelow net faulty set number)
    → IsListOf both (λ a. Contains set a ⊎ Contains steps a)
    → IsListOf both (λ a. Contains set a ⊎ ((via : ℕ) × IsStep net faulty set a via))
all_steps net ok faulty set steps both number all so list =
    listed_as both (λ a. Contains set a ⊎ Contains steps a) (λ a. Contains set a ⊎ ((via : ℕ) × IsStep net faulty set a via)) list (λ a. (
      (λ h. elim h [
        | inl old ↦ inl old
        | inr new ↦ let s = (so.members a).0 new in inr (s.0, s.2)
      ]),
      (λ h. elim h [
        | inl old ↦ inl old
        | inr s ↦ inr ((so.members a).1 (s.0, omega (arith, near_below net ok a s.0 s.1.near), s.1))
      ]),
    ))

-- nobody but a general is joined to it by no edge
pub joined_alone : (net : Network) (faulty set : List ℕ) (to : ℕ) → set ≡ to ∷ [] → IsListOf set (λ a. IsJoinedBy net faulty 0 a to)
joined_alone net faulty set to e = rw e (record {
  ascending = λ i j d l m. absurd (omega (arith, l, m));
  members = λ v. (
    (λ h. (0, omega arith, only v h)),
    (λ j. alone v j.0 j.1 j.2),
  );
})
  where
    only : (v : ℕ) → Contains (to ∷ []) v → v ≡ to
    only v (zero, l, here) = sym here
    only v (suc k, l, there) = absurd (omega (arith, l))

    alone : (v edges : ℕ) → edges ≤ 0 → IsWalk net faulty edges v to → Contains (to ∷ []) v
    alone v zero l w = (0, omega arith, sym w)
    alone v (suc edges) l w = absurd (omega (arith, l))

-- with one edge more
pub joined_more : (net : Network) → IsNetwork net → (faulty set wider : List ℕ) (most to : ℕ)
    → IsListOf set (λ a. IsJoinedBy net faulty most a to)
    → IsListOf wider (λ a. Contains set a ⊎ ((via : ℕ) × IsStep net faulty set a via))
    → IsListOf wider (λ a. IsJoinedBy net faulty (most + 1) a to)
joined_more net ok faulty set wider most to so list =
    listed_as wider (λ a. Contains set a ⊎ ((via : ℕ) × IsStep net faulty set a via)) (λ a. IsJoinedBy net faulty (most + 1) a to) list (λ a. (
      (λ h. elim h [
        | inl old ↦ let j = (so.members a).0 old in (j.0, omega (arith, j.1), j.2)
        | inr s ↦ let j = (so.members s.0).0 s.1.member in
            (suc j.0, omega (arith, j.1), (s.0, s.1.near, (near_below net ok a s.0 s.1.near, s.1.loyal), j.2))
      ]),
      (λ j. last a j.0 j.1 j.2),
    ))
  where
    last : (a edges : ℕ) → edges ≤ most + 1 → IsWalk net faulty edges a to → Contains set a ⊎ ((via : ℕ) × IsStep net faulty set a via)
    last a zero l w = inl ((so.members a).1 (zero, omega arith, w))
    last a (suc edges) l w = inr (w.0, record { near = w.1; member = (so.members w.0).1 (edges, omega (arith, l), w.3); loyal = w.2.1 })

-- the pairs of a, up to a number
abbrev pub JoinedBelow : Network → List ℕ → ℕ → ℕ → ℕ → Type 0
JoinedBelow net faulty most a number = (y : ℕ) → y < number → a < y → IsLoyal net faulty y → IsJoinedBy net faulty most a y

pub apart_from : (net : Network) (faulty joined : List ℕ) (most a b : ℕ) → IsLoyal net faulty a
    → IsListOf joined (λ v. IsJoinedBy net faulty most v a) → JoinedBelow net faulty most a b
    → a < b → IsLoyal net faulty b → (Contains joined b → ⊥) → IsLeastApartFrom net faulty most a b
apart_from net faulty joined most a b loyal_a list so l loyal_b out = record {
  ordered = l;
  lesser = loyal_a;
  greater = loyal_b;
  apart = λ j. out ((list.members b).1 (turned net faulty most a b loyal_a j));
  least = λ y low high loyal. so y high low loyal;
}

pub joined_next : (net : Network) (faulty joined : List ℕ) (most a b number : ℕ) → b ≡ number
    → IsListOf joined (λ v. IsJoinedBy net faulty most v a) → JoinedBelow net faulty most a number
    → (IsBehindApart faulty joined a b → ⊥) → JoinedBelow net faulty most a (number + 1)
joined_next net faulty joined most a b number at list so not_apart y l low loyal = elim (cases_eq y b) [
  | inl e ↦ elim (decide_contains joined y) [
    | inl member ↦ turned net faulty most y a loyal ((list.members y).0 member)
    | inr none ↦ absurd (not_apart (omega (arith, e, low), (λ h. loyal.1 (subst (Contains faulty) (sym e) h)), λ h. none (subst (Contains joined) (sym e) h)))
  ]
  | inr ne ↦ so y (omega (arith, l, at)) low loyal
]

-- the rows of the pairs whose lesser general is below a number
abbrev pub RowsBelow : Network → List ℕ → ℕ → ℕ → Type 0
RowsBelow net faulty most number =
    (x y : ℕ) → x < number → x < y → IsLoyal net faulty x → IsLoyal net faulty y → IsJoinedBy net faulty most x y

pub no_rows : (net : Network) (faulty : List ℕ) (most : ℕ) → RowsBelow net faulty most 0
no_rows net faulty most x y l = absurd (omega (arith, l))

pub row_more : (net : Network) (faulty : List ℕ) (most a number : ℕ) → a ≡ number → RowsBelow net faulty most number
    → ((b : ℕ) → a < b → IsLoyal net faulty a → IsLoyal net faulty b → IsJoinedBy net faulty most a b)
    → RowsBelow net faulty most (number + 1)
row_more net faulty most a number at so row x y l m loyal_x loyal_y = elim (cases_eq x a) [
  | inl e ↦ subst (λ z. IsJoinedBy net faulty most z y) (sym e) (row y (omega (arith, e, m)) (subst (IsLoyal net faulty) e loyal_x) loyal_y)
  | inr ne ↦ so x y (omega (arith, l, at)) m loyal_x loyal_y
]

pub least_pair : (net : Network) (faulty : List ℕ) (most a b : ℕ) → RowsBelow net faulty most a → IsLeastApartFrom net faulty most a b → IsLeastApart net faulty most a b
least_pair net faulty most a b so from = record {
  ordered = from.ordered;
  lesser = from.lesser;
  greater = from.greater;
  apart = from.apart;
  least = λ x y l loyal_x loyal_y before. elim before [
    | inl below ↦ so x y below l loyal_x loyal_y
    | inr same ↦ let e : x ≡ a = same.0 in
        subst (λ z. IsJoinedBy net faulty most z y) (sym e) (from.least y (omega (arith, e, l)) same.1 loyal_y)
  ];
}

pub all_joined : (net : Network) (faulty : List ℕ) (most number : ℕ) → net.generals ≤ number → RowsBelow net faulty most number → AreJoinedBy net faulty most
all_joined net faulty most number all so a b loyal_a loyal_b = elim (cases_order a b) [
  | inl e ↦ (0, omega arith, e)
  | inr (inl l) ↦ so a b (omega (arith, all, loyal_a.0)) l loyal_a loyal_b
  | inr (inr l) ↦ turned net faulty most b a loyal_b (so b a (omega (arith, all, loyal_b.0)) l loyal_b loyal_a)
]

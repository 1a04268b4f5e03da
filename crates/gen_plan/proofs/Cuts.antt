-- Sets of generals in their order, and what cuts them apart.
use Rattle.std.proofs.Common.{◌≡◌, ℕ, zero, suc, ◌+◌, ◌-◌, ◌*◌, ◌%◌, ◌<◌, ◌≤◌, ◌^◌, Option, Some, None, SomeIff, inl, inr, List, length, filter, Contains, sym, ap, subst, ◌∙◌, arith, rules}
use Rattle.std.specs.List.{range_with_len}
use Rattle.std.proofs.lemmas.List.FromFn.{length-range_with_len}
use Rattle.std.proofs.lemmas.Bool.{cases_eq}
use Rattle.std.proofs.lemmas.Nat.Bits.{bit_at_above}
use Rattle.std.proofs.lemmas.Bool.{cases_lt}
use Rattle.gen_net.specs.Network.{Network, IsLoyal, IsNetwork}
use Rattle.gen_net.specs.Walks.{IsWalk}
use Rattle.gen_types.specs.Bits.{members_of, bits_of}
use Rattle.gen_types.specs.BitLaws.{members_has, members_ascending, bits_below}
use Rattle.gen_types.specs.Ends.{is_among}
use Rattle.gen_types.specs.Members.{filter_range_has, filter_range_gives, filter_range_ascending}
use Rattle.gen_types.proofs.Among.{among_in, in_among}
use Rattle.gen_types.proofs.BitSteps.{members_back}
use Rattle.gen_types.proofs.Lists.{length-le_from_distinct, Contains_in_range}
use Rattle.gen_plan.specs.Plans.{AreJoinedBy, Withstands, IsSetOf, IsLeastApart, IsFirstCut, IsMostTraitors}
use Rattle.gen_plan.specs.Loops.Cuts.{AllOfSizeStand, IsFirstOfSize}
use Rattle.gen_plan.specs.declared.plans.Cut.{Cut}
use Rattle.gen_plan.proofs.Short.{withstands_short}

-- the set of a number of fewer bits than there are generals
pub set_of_bits : (net : Network) (bits : ℕ) → bits < 2 ^ net.generals → IsSetOf net (members_of bits)
set_of_bits net bits small = record {
  ascending = members_ascending bits;
  inside = λ g h. elim (cases_lt g net.generals) [
    | inl l ↦ l
    | inr past ↦ let set = (members_has bits g h).1 in absurd (omega (arith, set, bit_at_above bits net.generals g small past))
  ];
}

-- a set is that of its number
pub set_back : (net : Network) → IsNetwork net → (set : List ℕ) → IsSetOf net set → members_of (bits_of set) ≡ set
set_back net ok set is = let few : net.generals ≤ 16 = ok.ranges.few_generals in
    members_back set is.ascending (λ v h. let l = is.inside v h in omega (arith, few, l))

pub set_number : (net : Network) (set : List ℕ) → IsSetOf net set → bits_of set < 2 ^ net.generals
set_number net set is = bits_below net.generals set is.inside

-- there are at most 65,536 sets
pub sets_fit : (net : Network) → IsNetwork net → (count : ℕ) → count ≡ net.generals → ((1 * 2 ^ count) % 4294967296 ≡ 2 ^ net.generals) × (2 ^ net.generals ≤ 65536)
sets_fit net ok count is =
    let few : net.generals ≤ 16 = ok.ranges.few_generals in
    rw is (pow_fits net.generals few)
  where
    pow_fits : (n : ℕ) → n ≤ 16 → ((1 * 2 ^ n) % 4294967296 ≡ 2 ^ n) × (2 ^ n ≤ 65536)
    pow_fits n few = (search rules, search rules)

pub set_few : (net : Network) → IsNetwork net → (set : List ℕ) → IsSetOf net set → length set < 256
set_few net ok set is =
    let few : net.generals ≤ 16 = ok.ranges.few_generals in
    let long : length set ≤ length (range_with_len 0 16) =
    length-le_from_distinct set (range_with_len 0 16) (λ i j d l m e. let up = is.ascending i j d l m in absurd (omega (arith, up, e)))
    (λ x h. let l = is.inside x h in Contains_in_range 0 16 x (omega arith) (omega (arith, l, few))) in
    omega (arith, long, length-range_with_len 0 16)

-- the sets of this many members whose number is below another leave all others joined
abbrev pub StandBelow : Network → ℕ → ℕ → ℕ → Type 0
StandBelow net count diameter bits =
    (set : List ℕ) → IsSetOf net set → length set ≡ count → bits_of set < bits → AreJoinedBy net set diameter

pub one_stands : (net : Network) → IsNetwork net → (count diameter bits : ℕ) (tried : List ℕ) → tried ≡ members_of bits
    → StandBelow net count diameter bits → (length tried ≡ count → AreJoinedBy net tried diameter)
    → StandBelow net count diameter (bits + 1)
one_stands net ok count diameter bits tried is so here set of size below = elim (cases_eq (bits_of set) bits) [
  | inl e ↦
      let same : tried ≡ set = is ∙ (ap members_of (sym e) ∙ set_back net ok set of) in
      subst (λ xs. AreJoinedBy net xs diameter) same (here (ap length same ∙ size))
  | inr ne ↦ so set of size (omega (arith, below))
]

pub all_stand : (net : Network) (count diameter bits : ℕ) → 2 ^ net.generals ≤ bits → StandBelow net count diameter bits → AllOfSizeStand net count diameter
all_stand net count diameter bits all so set of size = so set of size (let l = set_number net set of in omega (arith, all, l))

pub first_of_size : (net : Network) → IsNetwork net → (count diameter bits : ℕ) (tried : List ℕ) → tried ≡ members_of bits
    → bits_of (members_of bits) ≡ bits → bits < 2 ^ net.generals → StandBelow net count diameter bits
    → (cut : Cut) → cut.faulty ≡ tried → length tried ≡ count → IsLeastApart net tried diameter cut.a cut.b → IsFirstOfSize net count diameter cut
first_of_size net ok count diameter bits tried is number small so cut same size_is pair_is =
    let whole : cut.faulty ≡ members_of bits = same ∙ is in
    record {
      set = subst (IsSetOf net) (sym whole) (set_of_bits net bits small);
      size = ap length same ∙ size_is;
      pair = subst (λ xs. IsLeastApart net xs diameter cut.a cut.b) (sym same) pair_is;
      first = λ other is_set size below.
          let at : bits_of cut.faulty ≡ bits = ap bits_of whole ∙ number in
          so other is_set size (omega (arith, at, below));
    }

-- the sets of fewer members leave all others joined
abbrev pub SmallerStand : Network → ℕ → ℕ → Type 0
SmallerStand net count diameter = (set : List ℕ) → IsSetOf net set → length set < count → AreJoinedBy net set diameter

pub size_stands : (net : Network) (count diameter : ℕ) → SmallerStand net count diameter → AllOfSizeStand net count diameter → SmallerStand net (count + 1) diameter
size_stands net count diameter so here set of below = elim (cases_eq (length set) count) [
  | inl e ↦ here set of e
  | inr ne ↦ so set of (omega (arith, below))
]

pub first_cut : (net : Network) (count diameter : ℕ) → SmallerStand net count diameter → (cut : Cut) → IsFirstOfSize net count diameter cut
    → IsFirstCut net diameter cut.faulty cut.a cut.b
first_cut net count diameter so cut of = record {
  set = of.set;
  pair = of.pair;
  first = λ other is_set before. elim before [
    | inl fewer ↦ so other is_set (omega (arith, fewer, of.size))
    | inr same ↦ let size : length other ≡ length cut.faulty = same.0 in of.first other is_set (size ∙ of.size) same.1
  ];
}

-- a walk where others are named faulty
walk_as : (net : Network) (faulty other : List ℕ) → ((g : ℕ) → IsLoyal net faulty g → IsLoyal net other g) → (edges a b : ℕ) → IsWalk net faulty edges a b → IsWalk net other edges a b
walk_as net faulty other loyal zero a b w = w
walk_as net faulty other loyal (suc edges) a b (c, near, is, w) = (c, near, loyal c is, walk_as net faulty other loyal edges c b w)

joined_as : (net : Network) (faulty other : List ℕ) (most : ℕ) → ((g : ℕ) → IsLoyal net faulty g → IsLoyal net other g) → ((g : ℕ) → IsLoyal net other g → IsLoyal net faulty g) → AreJoinedBy net faulty most → AreJoinedBy net other most
joined_as net faulty other most loyal back so a b loyal_a loyal_b =
    let j = so a b (back a loyal_a) (back b loyal_b) in (j.0, j.1, walk_as net faulty other loyal j.0 a b j.2)

-- the set of the generals that a list names
named : Network → List ℕ → List ℕ
named net faulty = filter (is_among faulty) (range_with_len 0 net.generals)

named_set : (net : Network) (faulty : List ℕ) → IsSetOf net (named net faulty)
unfolding named
named_set net faulty = record {
  ascending = filter_range_ascending (is_among faulty) 0 net.generals;
  inside = λ g h. let r = (filter_range_has (is_among faulty) 0 net.generals g h).1 in omega (arith, r);
}

named_in : (net : Network) (faulty : List ℕ) (g : ℕ) → Contains (named net faulty) g → Contains faulty g
unfolding named
named_in net faulty g h = among_in faulty g (filter_range_has (is_among faulty) 0 net.generals g h).2

named_few : (net : Network) (faulty : List ℕ) → length (named net faulty) ≤ length faulty
named_few net faulty = length-le_from_distinct (named net faulty) faulty
    (λ i j d l m e. let up = (named_set net faulty).ascending i j d l m in absurd (omega (arith, up, e)))
    (named_in net faulty)

loyal_in : (net : Network) (faulty : List ℕ) (g : ℕ) → IsLoyal net (named net faulty) g → IsLoyal net faulty g
unfolding named
loyal_in net faulty g loyal = (loyal.0, λ h. loyal.1 (filter_range_gives (is_among faulty) 0 net.generals g (omega arith) (omega (arith, loyal.0)) (in_among faulty g h)))

loyal_out : (net : Network) (faulty : List ℕ) (g : ℕ) → IsLoyal net faulty g → IsLoyal net (named net faulty) g
loyal_out net faulty g loyal = (loyal.0, λ h. loyal.1 (named_in net faulty g h))

pub withstands : (net : Network) (count traitors diameter : ℕ) → traitors < count → SmallerStand net count diameter → Withstands net traitors diameter
withstands net count traitors diameter more so faulty few =
    joined_as net (named net faulty) faulty diameter (loyal_in net faulty) (loyal_out net faulty)
    (so (named net faulty) (named_set net faulty) (let l = named_few net faulty in omega (arith, l, few, more)))

-- a set that cuts is not withstood
pub not_withstood : (net : Network) (diameter : ℕ) (faulty : List ℕ) (a b traitors : ℕ) → IsFirstCut net diameter faulty a b → length faulty ≤ traitors → Withstands net traitors diameter → ⊥
not_withstood net diameter faulty a b traitors cut few so = cut.pair.apart (so faulty few a b cut.pair.lesser cut.pair.greater)

pub no_traitors : (net : Network) (diameter : ℕ) (faulty : List ℕ) (a b : ℕ) → IsFirstCut net diameter faulty a b → length faulty ≡ 0 → (traitors : ℕ) → Withstands net traitors diameter → ⊥
no_traitors net diameter faulty a b cut none traitors = not_withstood net diameter faulty a b traitors cut (omega (arith, none))

pub some_traitors : (net : Network) (diameter : ℕ) (faulty : List ℕ) (a b most : ℕ) → IsFirstCut net diameter faulty a b → most + 1 ≡ length faulty
    → Withstands net most diameter × ((traitors : ℕ) → most < traitors → Withstands net traitors diameter → ⊥)
some_traitors net diameter faulty a b most cut size = (
  withstands net (length faulty) most diameter (omega (arith, size)) (λ set of fewer. cut.first set of (inl fewer)),
  λ traitors more. not_withstood net diameter faulty a b traitors cut (omega (arith, size, more)),
)

-- one fewer than the first set that cuts has, if it has one
pub most_told : (net : Network) (diameter : ℕ) (faulty : List ℕ) (a b count : ℕ) (found : Option ℕ) → IsFirstCut net diameter faulty a b
    → count ≡ length faulty → SomeIff found (1 ≤ count) (count - 1) → IsMostTraitors net diameter found
most_told net diameter faulty a b count (Some most) cut size told = some_traitors net diameter faulty a b most cut (omega (arith, size, told.0, told.1))
most_told net diameter faulty a b count None cut size told = no_traitors net diameter faulty a b cut (none_left told)
  where
    none_left : (1 ≤ count → ⊥) → length faulty ≡ 0
    none_left few = elim (cases_lt 0 count) [ inl l ↦ absurd (few l) | inr none ↦ omega (arith, none, size) ]

-- a greater diameter withstands what a lesser does
pub withstands_more : (net : Network) (traitors less more : ℕ) → less ≤ more → Withstands net traitors less → Withstands net traitors more
withstands_more net traitors less more l so faulty few a b loyal_a loyal_b =
    let j = so faulty few a b loyal_a loyal_b in (j.0, omega (arith, j.1, l), j.2)

-- no diameter up to this one would do
abbrev pub NoneUpTo : Network → ℕ → ℕ → Type 0
NoneUpTo net traitors most = (diameter : ℕ) → diameter ≤ most → Withstands net traitors diameter → ⊥

pub none_up_to : (net : Network) (traitors most : ℕ) → (Withstands net traitors most → ⊥) → NoneUpTo net traitors most
none_up_to net traitors most fails diameter l so = fails (withstands_more net traitors diameter most l so)

pub none_at_all : (net : Network) → IsNetwork net → (traitors most : ℕ) → 15 ≤ most → NoneUpTo net traitors most → (diameter : ℕ) → Withstands net traitors diameter → ⊥
none_at_all net ok traitors most all none diameter so = none 15 all (withstands_short net ok traitors diameter so)

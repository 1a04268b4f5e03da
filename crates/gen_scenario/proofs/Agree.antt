-- An order goes along a walk of the rest, so all of the rest accept the same orders, and decide alike.
use Rattle.std.proofs.Common.{◌↔◌, ◌≡◌, ◌≢◌, ℕ, zero, suc, ◌+◌, ◌<◌, ◌≤◌, ◌⊎◌, inl, inr, List, [], ◌∷◌, ◌++◌, length, Contains, AllPairs, refl, sym, ap, ◌∙◌, subst, arith}
use Rattle.std.proofs.lemmas.List.Elements.{All-contains, Contains-append_left}
use Rattle.std.proofs.lemmas.Bool.{cases_eq, cases_lt}
use Rattle.gen_types.specs.Ascending.{IsListOf}
use Rattle.gen_types.specs.ChoiceOf.{choice_of-one, choice_of-none}
use Rattle.gen_types.proofs.Lists.{Contains_nil, decide_contains, first_member, length-le_from_distinct, AllPairs-front, ascending_one, only_one}
use Rattle.gen_net.specs.declared.message.Message.{Message}
use Rattle.gen_net.specs.Network.{Network, rounds, choose, AreNeighbours, IsLoyal}
use Rattle.gen_net.specs.Walks.{IsWalk, HasDiameter}
use Rattle.gen_net.specs.Run.{Run, Adds, Accepts}
use Rattle.gen_net.specs.Follows.{LieutenantFollows}
use Rattle.gen_core.proofs.Decisions.{decision}
use Rattle.gen_core.proofs.Rounds.{added_by}
use Rattle.gen_core.proofs.SignedRuns.{RestFollows, rest_follows, own_of, pick_of, signer_added, neighbour_adds, every_order_own}
use Rattle.gen_scenario.specs.Theorem.{Case, Premises, AcceptsHere, Agreement, Validity, EachDecides, DecideAlike, ObeyCommander}
use Rattle.gen_scenario.specs.AnyChoice.{EachIsChoice, AnyChoice}

-- g has the order by round i, as one that he added or as his own
abbrev Knows : Run → ℕ → ℕ → ℕ → ℕ → Type 0
Knows run own g i v = ((g ≡ 0) × (v ≡ own)) ⊎ ((k : ℕ) × (k ≤ i) × Adds run g k v)

-- whether a general is of the rest
pub decide_loyal : (net : Network) (faulty : List ℕ) (g : ℕ) → IsLoyal net faulty g ⊎ (IsLoyal net faulty g → ⊥)
decide_loyal net faulty g = elim (decide_contains faulty g) [
  | inl h ↦ inr (λ l. l.1 h)
  | inr out ↦ elim (cases_lt g net.generals) [ inl below ↦ inl (below, out) | inr above ↦ inr (λ l. let b : g < net.generals = l.0 in absurd (omega arith)) ]
]

module _ (net : Network) (faulty : List ℕ) (run : Run) (own : ℕ) (picks : ℕ → ℕ → List ℕ) (follow : RestFollows net faulty run own picks) where
  -- where the commander is of the rest only his order is added, or known
  added_own : IsLoyal net faulty 0 → (g k v : ℕ) → Adds run g k v → v ≡ own
  added_own loyal g k v added =
      let t = added.arrives.0 in
      let h : Contains run t = added.arrives.1.0.0 in
      sym added.arrives.2 ∙ every_order_own net faulty run own picks follow loyal (length t.path) t h (omega arith)

  known_own : IsLoyal net faulty 0 → (g i v : ℕ) → Knows run own g i v → v ≡ own
  known_own loyal g i v knows = elim knows [ inl mine ↦ mine.1 | inr learnt ↦ added_own loyal g learnt.0 v learnt.2 ]

  -- along an edge of the rest an order is known one round later
  step : (x y i v : ℕ) → IsLoyal net faulty x → IsLoyal net faulty y → AreNeighbours net x y → i < rounds net → Knows run own x i v → Knows run own y (i + 1) v
  step x y i v loyal_x loyal_y near below knows = elim (cases_eq y 0) [
    | inl y_zero ↦ inl (y_zero, known_own (subst (IsLoyal net faulty) y_zero loyal_y) x i v knows)
    | inr ny ↦ elim (cases_eq x 0) [
      | inl x_zero ↦
          let loyal : IsLoyal net faulty 0 = subst (IsLoyal net faulty) x_zero loyal_x in
          let mine : v ≡ own = known_own loyal x i v knows in
          let t : Message = record { from = 0; to = y; order = own; path = 0 ∷ [] } in
          let h : Contains run t = ((follow.commander loyal).sends t refl).1 (subst (λ g. AreNeighbours net g y) x_zero near, refl, refl) in
          let f = added_by run y 1 own (t, ((h, refl), refl), refl) in
          inr (f.0, omega (arith, f.1), subst (λ w. Adds run y f.0 w) (sym mine) f.2)
      | inr nx ↦ elim knows [
        | inl mine ↦ absurd (nx mine.0)
        | inr learnt ↦
            let f = neighbour_adds net faulty run own picks follow x y learnt.0 v loyal_x nx loyal_y ny near (omega (arith, learnt.1)) learnt.2 in
            inr (f.0, omega (arith, f.1, learnt.1), f.2)
      ]
    ]
  ]

  -- along a walk of the rest that ends in time an order is known by the last round
  walk : (edges x y i v : ℕ) → IsLoyal net faulty x → Knows run own x i v → i + edges ≤ rounds net → IsWalk net faulty edges x y → Knows run own y (rounds net) v
  walk zero x y i v loyal_x knows room same = elim knows [
    | inl mine ↦ inl (sym same ∙ mine.0, mine.1)
    | inr learnt ↦ inr (learnt.0, omega (arith, learnt.1), subst (λ g. Adds run g learnt.0 v) same learnt.2)
  ]
  walk (suc edges) x y i v loyal_x knows room way =
      walk edges way.0 y (i + 1) v way.2 (step x way.0 i v loyal_x way.2 way.1 (omega arith) knows) (omega arith) way.3

  accepts : (g v : ℕ) → g ≢ 0 → Knows run own g (rounds net) v → Accepts net run g v
  accepts g v ng knows = elim knows [ inl mine ↦ absurd (ng mine.0) | inr learnt ↦ learnt ]

-- Where the commander is faulty, somebody of the rest has added an accepted order by round m: the first of the rest in the
-- picked path, or the general himself.
added_early : (net : Network) (faulty : List ℕ) (run : Run) (own : ℕ) (picks : ℕ → ℕ → List ℕ) → RestFollows net faulty run own picks → length faulty ≤ net.traitors → (IsLoyal net faulty 0 → ⊥) → (g l v : ℕ) → IsLoyal net faulty g → g ≢ 0 → Adds run g l v → (x : ℕ) × IsLoyal net faulty x × Knows run own x net.traitors v
added_early net faulty run own picks follow few traitor g l v loyal ng added =
    let f : LieutenantFollows net run g (picks g) = follow.lieutenants g loyal ng in
    let u = f.picks l v added in
    let h : Contains run u.0 = u.1.0.0 in
    let len : length u.0.path ≡ l = u.1.0.1 in
    let c = (follow.run_of_net.messages u.0 h).chain in
    let in_faulty : (x : ℕ) → x < net.generals → (IsLoyal net faulty x → ⊥) → Contains faulty x = λ x b no_loyal. elim (decide_contains faulty x) [ inl i ↦ i | inr o ↦ absurd (no_loyal (b, o)) ] in
    elim (first_member (IsLoyal net faulty) (decide_loyal net faulty) u.0.path) [
      | inl nobody ↦
          let short : length u.0.path ≤ length faulty = length-le_from_distinct u.0.path faulty c.distinct (λ x i. in_faulty x (All-contains (λ g. g < net.generals) u.0.path x c.generals_known i) (nobody x i)) in
          (g, loyal, inr (l, omega arith, added))
      | inr s ↦
          let front = s.0 in
          let e : u.0.path ≡ front ++ s.1 ∷ s.2 = s.3 in
          let apart = AllPairs-front front (s.1 ∷ s.2) (subst (AllPairs (λ a b. a ≢ b)) e c.distinct) in
          let short : length front ≤ length faulty = length-le_from_distinct front faulty apart (λ x i. in_faulty x (All-contains (λ g. g < net.generals) u.0.path x c.generals_known (subst (λ q. Contains q x) (sym e) (Contains-append_left front (s.1 ∷ s.2) x i))) (s.5 x i)) in
          let nz : s.1 ≢ 0 = λ z. traitor (subst (IsLoyal net faulty) z s.4) in
          let known = signer_added net faulty run own picks follow l u.0 h (omega arith) front s.2 s.1 e s.4 nz in
          (s.1, s.4, inr (length front, omega arith, subst (λ w. Adds run s.1 (length front) w) u.2 known.added))
    ]

agree : (net : Network) (faulty : List ℕ) (run : Run) (own : ℕ) (picks : ℕ → ℕ → List ℕ) → RestFollows net faulty run own picks → length faulty ≤ net.traitors → HasDiameter net faulty → (g h : ℕ) → IsLoyal net faulty g → g ≢ 0 → IsLoyal net faulty h → h ≢ 0 → (v : ℕ) → Accepts net run g v → Accepts net run h v
agree net faulty run own picks follow few diameter g h loyal_g ng loyal_h nh v accepted = elim (decide_loyal net faulty 0) [
  | inl loyal ↦
      let mine : v ≡ own = added_own net faulty run own picks follow loyal g accepted.0 v accepted.2 in
      let w = diameter 0 h loyal loyal_h in
      let short : w.0 ≤ net.diameter = w.1 in
      accepts net faulty run own picks follow h v nh (walk net faulty run own picks follow w.0 0 h 0 v loyal (inl (refl, mine)) (omega arith) w.2)
  | inr traitor ↦
      let s = added_early net faulty run own picks follow few traitor g accepted.0 v loyal_g ng accepted.2 in
      let w = diameter s.0 h s.1 loyal_h in
      let short : w.0 ≤ net.diameter = w.1 in
      accepts net faulty run own picks follow h v nh (walk net faulty run own picks follow w.0 s.0 h net.traitors v s.1 s.2 (omega arith) w.2)
]

obey : (net : Network) (faulty : List ℕ) (run : Run) (own : ℕ) (picks : ℕ → ℕ → List ℕ) → RestFollows net faulty run own picks → HasDiameter net faulty → IsLoyal net faulty 0 → (g : ℕ) → IsLoyal net faulty g → g ≢ 0 → (v : ℕ) → Accepts net run g v ↔ (v ≡ own)
obey net faulty run own picks follow diameter loyal g loyal_g ng v = (
  (λ accepted. added_own net faulty run own picks follow loyal g accepted.0 v accepted.2),
  (λ mine.
      let w = diameter 0 g loyal loyal_g in
      let short : w.0 ≤ net.diameter = w.1 in
      accepts net faulty run own picks follow g v ng (walk net faulty run own picks follow w.0 0 g 0 v loyal (inl (refl, mine)) (omega arith) w.2)),
)

pub agreement : (here : Case) → Premises here → Agreement here
agreement here p g h v loyal_g loyal_h =
    let own = own_of (here.conducts 0) in
    let follow = rest_follows here.net here.faulty here.run here.conducts p.signed in (
      agree here.net here.faulty here.run own (λ x. pick_of (here.conducts x)) follow p.few p.diameter g h loyal_g.0 loyal_g.1 loyal_h.0 loyal_h.1 v,
      agree here.net here.faulty here.run own (λ x. pick_of (here.conducts x)) follow p.few p.diameter h g loyal_h.0 loyal_h.1 loyal_g.0 loyal_g.1 v,
    )

pub validity : (here : Case) → Premises here → Validity here
validity here p own g v commander loyal =
    let follow = rest_follows here.net here.faulty here.run here.conducts p.signed in
    rw commander.1 at (obey here.net here.faulty here.run (own_of (here.conducts 0)) (λ x. pick_of (here.conducts x)) follow p.diameter commander.0 g loyal.0 loyal.1 v)

-- two ascending lists of numbers with one property are one
lists_alike : (xs ys : List ℕ) (P Q : ℕ → Type 0) → ((v : ℕ) → P v ↔ Q v) → IsListOf xs P → IsListOf ys Q → xs ≡ ys
lists_alike xs ys P Q same left right = ascending_one xs ys left.ascending right.ascending
    (λ v h. (right.members v).1 ((same v).0 ((left.members v).0 h)))
    (λ v h. (left.members v).1 ((same v).1 ((right.members v).0 h)))

-- and of a property of one number alone its list of one
list_of_one : (xs : List ℕ) (P : ℕ → Type 0) (x : ℕ) → ((v : ℕ) → P v ↔ (v ≡ x)) → IsListOf xs P → xs ≡ x ∷ []
list_of_one xs P x same all = only_one xs x (record {
  ascending = all.ascending;
  members = λ v. ((λ h. inr ((same v).0 ((all.members v).0 h))), (λ h. (all.members v).1 ((same v).1 (elim h [ inl none ↦ absurd (Contains_nil v none) | inr e ↦ e ]))));
})

pub any_choice : (here : Case) → Premises here → AnyChoice here
any_choice here p choice laws = record {
  alike = λ g h orders others loyal_g loyal_h left right. ap choice (lists_alike orders others (AcceptsHere here g) (AcceptsHere here h) (λ v. agreement here p g h v loyal_g loyal_h) left right);
  obeyed = λ own g orders commander loyal all. ap choice (list_of_one orders (AcceptsHere here g) own (λ v. validity here p own g v commander loyal) all) ∙ laws.of_one own;
}

pub each_is_choice : EachIsChoice
each_is_choice net = record { of_one = choice_of-one net.choice; of_none = choice_of-none net.choice }

pub each_decides : EachDecides
each_decides net run ok g lieutenant = decision net run ok g

pub decide_alike : (here : Case) → Premises here → DecideAlike here
decide_alike here p g h order other loyal_g loyal_h left right =
    left.1.chosen ∙ (any_choice here p (choose here.net) (each_is_choice here.net)).alike g h left.0 right.0 loyal_g loyal_h left.1.set right.1.set ∙ sym right.1.chosen

pub obey_commander : (here : Case) → Premises here → ObeyCommander here
obey_commander here p own g order commander loyal decides =
    decides.1.chosen ∙ (any_choice here p (choose here.net) (each_is_choice here.net)).obeyed own g decides.0 commander loyal decides.1.set

-- The rings of a campaign from run to run.
use Rattle.std.proofs.Common.{◌≡◌, ◌<◌, ◌≤◌, ◌+◌, ◌*◌, ◌⊎◌, ◌↔◌, inl, inr, ℕ, zero, suc, true, List, [], ◌∷◌, ◌++◌, map, length, get_or, Contains, refl, sym, ap, subst, ◌∙◌, arith}
use Rattle.std.specs.List.{list_all}
use Rattle.gen_types.proofs.Lists.{Contains_cases, Contains_here, Contains_nil, Contains_there}
use Rattle.gen_types.specs.declared.heights.TreeHeight.TheVariants.{Four, Six}
use Rattle.gen_tree.specs.Rings.{Ring, seed_of}
use Rattle.gen_net.specs.Version.{height_in, slot_in}
use Rattle.gen_chain.specs.Leaves.{leaves_per_run, leaf_of_order}
use Rattle.gen_log.specs.Writing.{LogBytes}
use Rattle.gen_scenario.specs.AllAre.{AllAre}
use Rattle.gen_scenario.specs.Rows.{logs_of_all}
use Rattle.gen_scenario.specs.Scenario.{Scenario, header_of}
use Rattle.gen_threads.specs.HeldRings.{AreAfterRun, HasSignedUnder, IsAfterRun, IsUntaken, MayServe, ring_in}
use Rattle.gen_campaign.specs.Series.{ascend_from, is_like}
use Rattle.gen_campaign.specs.Leaves.{AreKept, AreSpentIn, HasSignedIn, IsKept}
use Rattle.gen_campaign.proofs.Testing.{AreLike, like_each, like_parts}

-- ---- before the first run

first_kept : (first : Scenario) (runs : List Scenario) (g : ℕ) (ring : Ring) → AreLike first first → IsUntaken first g ring → IsKept first runs runs 0 g ring
first_kept first runs g ring like is =
    let none = λ (leaf : ℕ) (m : Contains ring.taken leaf). Contains_nil leaf (subst (λ (r : Ring). Contains r.taken leaf) is m) in
    record {
      seed = ap (λ (r : Ring). r.seed) is;
      height = ap (λ (r : Ring). r.height) is ∙ like.height;
      below = λ leaf m. absurd (none leaf m);
      spent = λ leaf. (λ m. elim m [ inl taken ↦ absurd (none leaf taken) | inr signed ↦ signed ], λ signed. inr signed);
    }

pub all_first : (first : Scenario) (runs : List Scenario) (rings : List Ring) → is_like first first ≡ true → AllAre (IsUntaken first) first.net.generals rings → AreKept first runs runs 0 rings
all_first first runs rings like all = record { count = all.count; each = λ g d low. first_kept first runs g (get_or rings g d) (like_parts first first like) (all.each g d low) }

-- ---- before each run

may_serve_one : (first s : Scenario) (runs rest : List Scenario) (least g : ℕ) (ring : Ring) → AreLike first s → least ≤ slot_in s.version → IsKept first runs rest least g ring → MayServe s g ring
may_serve_one first s runs rest least g ring like high kept = record {
  seed = kept.seed ∙ ap (λ m. seed_of m g) (sym like.master);
  unused = record {
    height = kept.height ∙ sym like.height;
    free = λ n few m. let low = kept.below (leaf_of_order (header_of s) n) m in absurd (omega (arith, low, high));
  };
}

pub may_serve : (first s : Scenario) (runs rest : List Scenario) (least : ℕ) (rings : List Ring) → is_like first s ≡ true → least ≤ slot_in s.version → AreKept first runs rest least rings
    → AllAre (MayServe s) s.net.generals rings
may_serve first s runs rest least rings test high kept =
    let like = like_parts first s test in
    record {
      count = kept.count ∙ sym like.generals;
      each = λ g d low. may_serve_one first s runs rest least g (get_or rings g d) like high (kept.each g d (subst (λ n. g < n) like.generals low));
    }

-- ---- after it

next_kept : (first s : Scenario) (runs rest others : List Scenario) (least g : ℕ) (old new : Ring) → rest ≡ s ∷ others → least ≤ slot_in s.version → IsKept first runs rest least g old → IsAfterRun s g old new
    → IsKept first runs others (slot_in s.version + 1) g new
next_kept first s runs rest others least g old new e high kept after =
    let into = λ (t : Scenario) (h : Contains (s ∷ others) t). subst (λ (xs : List Scenario). Contains xs t) (sym e) h in
    record {
      seed = after.seed ∙ kept.seed;
      height = after.height ∙ kept.height;
      below = λ leaf m. elim (after.of_run leaf m) [
        | inl before ↦ let low = kept.below leaf before in omega (arith, low, high)
        | inr here ↦ omega (arith, here.1, here.2)
      ];
      spent = λ leaf. (
        λ m. elim m [
          | inl taken ↦ elim ((after.taken leaf).0 taken) [
            | inl before ↦ (kept.spent leaf).0 (inl before)
            | inr signed ↦ (kept.spent leaf).0 (inr (s, into s (Contains_here s others), signed))
          ]
          | inr later ↦ (kept.spent leaf).0 (inr (later.0, into later.0 (Contains_there s later.0 others later.1), later.2))
        ],
        λ signed. elim ((kept.spent leaf).1 signed) [
          | inl before ↦ inl ((after.taken leaf).1 (inl before))
          | inr run ↦ elim (Contains_cases s run.0 others (subst (λ (xs : List Scenario). Contains xs run.0) e run.1)) [
            | inl same ↦ inl ((after.taken leaf).1 (inr (subst (λ (t : Scenario). HasSignedUnder t g leaf) (sym same) run.2)))
            | inr there ↦ inr (run.0, there, run.2)
          ]
        ],
      );
    }

pub all_next : (first s : Scenario) (runs rest others : List Scenario) (least : ℕ) (old new : List Ring) → rest ≡ s ∷ others → is_like first s ≡ true → least ≤ slot_in s.version
    → AreKept first runs rest least old → AreAfterRun s old new → AreKept first runs others (slot_in s.version + 1) new
all_next first s runs rest others least old new e test high kept after =
    let like = like_parts first s test in
    let blank : Ring = record { seed = []; height = Four; taken = [] } in
    record {
      count = after.count ∙ like.generals;
      each = λ g d low. next_kept first s runs rest others least g (ring_in old g) (get_or new g d) e high
          (kept.each g (record { seed = []; height = Four; taken = [] }) low) (after.each g d (subst (λ n. g < n) (sym like.generals) low));
    }

-- ---- after the last

get_map : {X Y : Type 0} (f : X → Y) (xs : List X) (k : ℕ) (d : Y) (x : X) → k < length xs → get_or (map f xs) k d ≡ f (get_or xs k x)
get_map f [] k d x low = absurd (omega (arith, low))
get_map f (y ∷ ys) zero d x low = refl
get_map f (y ∷ ys) (suc k) d x low = get_map f ys k d x (omega (arith, low))

length_map : {X Y : Type 0} (f : X → Y) (xs : List X) → length (map f xs) ≡ length xs
length_map f [] = refl
length_map f (x ∷ xs) = let r = length_map f xs in omega (arith, r)

nothing_left : (first : Scenario) (runs rest : List Scenario) (least g : ℕ) (ring : Ring) → rest ≡ [] → IsKept first runs rest least g ring → (leaf : ℕ) → Contains ring.taken leaf ↔ HasSignedIn runs g leaf
nothing_left first runs rest least g ring e kept leaf = (
  λ m. (kept.spent leaf).0 (inl m),
  λ signed. elim ((kept.spent leaf).1 signed) [
    | inl m ↦ m
    | inr run ↦ absurd (Contains_nil run.0 (subst (λ (xs : List Scenario). Contains xs run.0) e run.1))
  ],
)

pub all_spent : (first : Scenario) (runs rest : List Scenario) (least : ℕ) (rings : List Ring) (sets : List (List ℕ)) → list_all (is_like first) runs ≡ true → rest ≡ [] → AreKept first runs rest least rings
    → sets ≡ map (λ (ring : Ring). ring.taken) rings → AreSpentIn runs sets
all_spent first runs rest least rings sets alike e kept is s h =
    let like = like_parts first s (like_each first runs s alike h) in
    let blank : Ring = record { seed = []; height = Four; taken = [] } in
    record {
      count = ap (λ (xs : List (List ℕ)). length xs) is ∙ length_map (λ (ring : Ring). ring.taken) rings ∙ kept.count ∙ sym like.generals;
      each = λ g d low leaf.
          let small : g < first.net.generals = subst (λ n. g < n) like.generals low in
          let same : get_or sets g d ≡ (get_or rings g blank).taken = ap (λ (xs : List (List ℕ)). get_or xs g d) is ∙ get_map (λ (ring : Ring). ring.taken) rings g d blank (subst (λ n. g < n) (sym kept.count) small) in
          subst (λ (xs : List ℕ). Contains xs leaf ↔ HasSignedIn runs g leaf) (sym same) (nothing_left first runs rest least g (get_or rings g blank) e (kept.each g blank small) leaf);
    }

-- ---- logs

joined : {V : Type 0} (f : V → List LogBytes) (all : List V) (v : V) (more : List (List LogBytes)) → map f (all ++ v ∷ []) ++ more ≡ map f all ++ f v ∷ more
joined f [] v more = refl
joined f (a ∷ all) v more = ap (λ xs. f a ∷ xs) (joined f all v more)

pub logs_next : {V : Type 0} (all new : List V) (v : V) (f : V → List LogBytes) (s : Scenario) (rest others : List Scenario) (total : List (List LogBytes)) → new ≡ all ++ v ∷ [] → f v ≡ logs_of_all s → rest ≡ s ∷ others
    → map f all ++ map logs_of_all rest ≡ total → map f new ++ map logs_of_all others ≡ total
logs_next all new v f s rest others total e is first before =
    ap (λ xs. map f xs ++ map logs_of_all others) e
    ∙ joined f all v (map logs_of_all others)
    ∙ ap (λ l. map f all ++ l ∷ map logs_of_all others) is
    ∙ ap (λ xs. map f all ++ map logs_of_all xs) (sym first)
    ∙ before

pub logs_done : {V : Type 0} (all : List V) (f : V → List LogBytes) (rest : List Scenario) (total : List (List LogBytes)) → rest ≡ [] → map f all ++ map logs_of_all rest ≡ total → map f all ≡ total
logs_done all f rest total e before = sym (right_none (map f all)) ∙ ap (λ xs. map f all ++ map logs_of_all xs) (sym e) ∙ before
  where
    right_none : (xs : List (List LogBytes)) → xs ++ [] ≡ xs
    right_none [] = refl
    right_none (x ∷ xs) = ap (λ ys. x ∷ ys) (right_none xs)

pub logs_none : {V : Type 0} (all : List V) (f : V → List LogBytes) (total : List (List LogBytes)) → all ≡ [] → map f all ++ total ≡ total
logs_none all f total e = ap (λ xs. map f xs ++ total) e

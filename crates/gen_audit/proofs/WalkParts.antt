-- The best walks between some generals are walks that a bundle can have.
use Rattle.std.proofs.Common.{◌≡◌, ◌≢◌, ◌<◌, ◌≤◌, ℕ, ◌+◌, ◌-◌, ◌*◌, ◌/◌, ◌%◌, inl, inr, Bool, true, List, [], ◌∷◌, map, filter, length, get_or, Contains, All, AllPairs, refl, sym, ap, subst, ◌∙◌, arith}
use Rattle.std.specs.Prelude.{nat_lt}
use Rattle.std.specs.List.{AllZip, range_with_len}
use Rattle.std.proofs.lemmas.Bool.{lt-ltb}
use Rattle.std.proofs.lemmas.List.{length-map}
use Rattle.std.proofs.lemmas.List.Elements.{All-cons, All-contains, All-nil}
use Rattle.std.proofs.lemmas.List.Kept.{AllPairs-cons}
use Rattle.gen_types.specs.Members.{filter_range_gives}
use Rattle.gen_types.proofs.Lists.{All_of, AllPairs_head, AllPairs_tail, Contains_here, Contains_mapped, Contains_there, length-le_from_distinct}
use Rattle.gen_net.specs.Network.{Network, IsNetwork, IsBefore}
use Rattle.gen_log.specs.Fields.{AreBelow}
use Rattle.gen_walks.specs.BestWalks.{IsBestFor, AreBestWalks}
use Rattle.gen_walks.specs.Walks.{AreJoined, IsPair, IsWalkInside, Leads}
use Rattle.gen_scenario.proofs.Having.{in_mapped}
use Rattle.gen_scenario.proofs.Sorting.{pairs_map, pairs_with}
use Rattle.gen_audit.specs.BundleParts.{AreListedWalks, IsListedWalk, ends_of}

-- ---- one walk

module _ (net : Network) (rest : List ℕ) where
  last_is : (a b : ℕ) (more : List ℕ) → Leads (AreJoined net rest) a more b → get_or (a ∷ more) (length more) 0 ≡ b
  last_is a b [] led = led
  last_is a b (c ∷ more) led = last_is c b more led.1

  all_below : (a b : ℕ) (more : List ℕ) → Leads (AreJoined net rest) a more b → AreBelow net.generals more
  all_below a b [] led = All-nil (λ v. v < net.generals)
  all_below a b (c ∷ more) led = All-cons (λ v. v < net.generals) c more led.0.2.0 (all_below c b more led.1)

  some_behind : (a b : ℕ) (more : List ℕ) → a < b → Leads (AreJoined net rest) a more b → 1 ≤ length more
  some_behind a b [] less led = absurd (omega (arith, led))
  some_behind a b (c ∷ more) less led = omega arith

  ends_are : (a b : ℕ) (walk : List ℕ) → IsWalkInside net rest a b walk → ends_of walk ≡ (a, b)
  ends_are a b [] led = absurd led
  ends_are a b (x ∷ more) led =
      let back : length (x ∷ more) - 1 ≡ length more = omega arith in
      let here : get_or (x ∷ more) (length more) 0 ≡ b = last_is x b more (subst (λ y. Leads (AreJoined net rest) y more b) (sym led.0) led.2) in
      let last : get_or (x ∷ more) (length (x ∷ more) - 1) 0 ≡ b = ap (λ k. get_or (x ∷ more) k 0) back ∙ here in
      λ i. (led.0 i, last i)

  is_listed : (a b : ℕ) (walk : List ℕ) → a < b → length walk ≤ 16 → IsWalkInside net rest a b walk → IsListedWalk net.generals walk
  is_listed a b [] less few led = absurd led
  is_listed a b (x ∷ more) less few led =
      let ends = ends_are a b (x ∷ more) led in
      let inside : x < net.generals = omega (arith, led.0, led.1.0) in
      record {
        some = omega (arith, some_behind a b more less led.2);
        few = few;
        below = All-cons (λ v. v < net.generals) x more inside (all_below a b more led.2);
        up = subst (λ (e : ℕ × ℕ). e.0 < e.1) (sym ends) less;
      }

-- ---- all of them

unmapped : {X Y : Type 0} (R : Y → Y → Type 0) (f : X → Y) (xs : List X) → AllPairs R (map f xs) → AllPairs (λ a b. R (f a) (f b)) xs
unmapped R f [] up = λ i j d l m. absurd (omega (arith, l, m))
unmapped R f (x ∷ xs) up =
    AllPairs-cons (λ a b. R (f a) (f b)) x xs
    (All_of (λ b. R (f x) (f b)) xs (λ y h. All-contains (R (f x)) (map f xs) (f y) (AllPairs_head R (f x) (map f xs) up) (in_mapped f xs y h)))
    (unmapped R f xs (AllPairs_tail R (f x) (map f xs) up))

module _ (net : Network) (rest : List ℕ) (ok : IsNetwork net) where
  each_listed : (pairs : List (ℕ × ℕ)) (walks : List (List ℕ)) → AllZip (IsBestFor net rest) pairs walks → ((p : ℕ × ℕ) → Contains pairs p → p.0 < p.1) → All (IsListedWalk net.generals) walks
  each_listed [] [] zipped up = All-nil (IsListedWalk net.generals)
  each_listed [] (w ∷ walks) zipped up = absurd zipped
  each_listed (p ∷ pairs) [] zipped up = absurd zipped
  each_listed (p ∷ pairs) (w ∷ walks) zipped up =
      All-cons (IsListedWalk net.generals) w walks
      (is_listed net rest p.0 p.1 w (up p (Contains_here p pairs)) (omega (arith, zipped.0.1, ok.ranges.few_diameter)) zipped.0.0.leads)
      (each_listed pairs walks zipped.1 (λ q h. up q (Contains_there p q pairs h)))

  ends_all : (pairs : List (ℕ × ℕ)) (walks : List (List ℕ)) → AllZip (IsBestFor net rest) pairs walks → map ends_of walks ≡ pairs
  ends_all [] [] zipped = refl
  ends_all [] (w ∷ walks) zipped = absurd zipped
  ends_all (p ∷ pairs) [] zipped = absurd zipped
  ends_all (p ∷ pairs) (w ∷ walks) zipped =
      let first : ends_of w ≡ p = ends_are net rest p.0 p.1 w zipped.0.0.leads in
      let more = ends_all pairs walks zipped.1 in
      λ i. first i ∷ more i

-- ---- how many there are

-- a pair of numbers below 16 as one number
abbrev coded : ℕ × ℕ → ℕ
coded p = p.0 * 16 + p.1

-- of these numbers those of pairs that ascend
abbrev ascends : ℕ → Bool
ascends v = nat_lt (v / 16) (v % 16)

abbrev codes_up : List ℕ
codes_up = filter ascends (range_with_len 0 256)

all_codes : length codes_up ≡ 120
all_codes = refl

parts_back : (a b v : ℕ) → b < 16 → v ≡ a * 16 + b → (v / 16 ≡ a) × (v % 16 ≡ b)
parts_back a b v low is = (omega arith, omega arith)

few_pairs : (pairs : List (ℕ × ℕ)) → AllPairs IsBefore pairs → ((p : ℕ × ℕ) → Contains pairs p → (p.0 < p.1) × (p.1 < 16)) → length pairs ≤ 120
few_pairs pairs up inside =
    let apart : AllPairs (λ v w. v ≢ w) (map coded pairs) = pairs_map (λ v w. v ≢ w) coded pairs (pairs_with IsBefore (λ p q. coded p ≢ coded q) pairs up (λ p q hp hq before same. elim before [
      | inl less ↦ absurd (omega (arith, less, same, inside p hp, inside q hq))
      | inr (first, less) ↦ absurd (omega (arith, first, less, same))
    ])) in
    let known : (v : ℕ) → Contains (map coded pairs) v → Contains codes_up v = λ v h.
    let k = Contains_mapped coded pairs v h in
    let low = inside k.0 k.1 in
    let back = parts_back k.0.0 k.0.1 v low.1 (sym k.2) in
    let less : ascends v ≡ true = lt-ltb (v / 16) (v % 16) (omega (arith, back.0, back.1, low.0)) in
    filter_range_gives ascends 0 256 v (omega arith) (omega (arith, k.2, low.0, low.1)) less in
    omega (arith, length-le_from_distinct (map coded pairs) codes_up apart known, length-map pairs coded, all_codes)

pub best_are_listed : (net : Network) (rest : List ℕ) (walks : List (List ℕ)) → IsNetwork net → AreBestWalks net rest walks → AreListedWalks net.generals walks
best_are_listed net rest walks ok best =
    let inside : (p : ℕ × ℕ) → Contains best.pairs p → IsPair net rest p.0 p.1 = λ p h. (best.members p.0 p.1).0 h in
    let ends : map ends_of walks ≡ best.pairs = ends_all net rest ok best.pairs walks best.best in
    let few : length best.pairs ≤ 120 = few_pairs best.pairs best.ascending (λ p h. let k = inside p h in (k.0, omega (arith, k.2.0, ok.ranges.few_generals))) in
    record {
      few = omega (arith, few, ap length ends, length-map walks ends_of);
      each = each_listed net rest ok best.pairs walks best.best (λ p h. (inside p h).0);
      ascending = unmapped IsBefore ends_of walks (subst (AllPairs IsBefore) (sym ends) best.ascending);
    }

-- Lists sorted by numbers, and pairwise relations.
use Rattle.std.proofs.Common.{◌≡◌, ◌≢◌, ◌<◌, ℕ, List, [], ◌∷◌, map, filter, get_or, Contains, AllPairs, refl, sym, subst, ◌∙◌, arith, eqb}
use Rattle.std.specs.List.{flat_map, range_with_len}
use Rattle.std.proofs.lemmas.Bool.{eqb-true, eq-eqb}
use Rattle.std.proofs.lemmas.List.Concat.{flat_map-cons}
use Rattle.std.proofs.lemmas.List.Kept.{AllPairs-cons, AllPairs-filter}
use Rattle.std.proofs.lemmas.List.Elements.{Contains-get_or, All-contains}
use Rattle.gen_types.specs.Members.{range_ascending}
use Rattle.gen_types.proofs.Lists.{Contains_here, Contains_there, Contains_mapped, Contains_flat_mapped, Contains_filtered, Contains_range, Contains_in_range, AllPairs_head, AllPairs_tail, AllPairs-append, All_of}
use Rattle.gen_chain.specs.Chain.{Chain}
use Rattle.gen_scenario.specs.Counted.{firsts}
use Rattle.gen_scenario.proofs.CountedChains.{firsts_all}
use Rattle.gen_scenario.proofs.Having.{in_filtered, in_flat}
use Rattle.gen_scenario.specs.RoundEntries.{in_order, sorted_by}
use Rattle.gen_scenario.proofs.FirstChains.{firsts_apart, firsts_from}

pub pairs_with : {X : Type 0} (R S : X → X → Type 0) (xs : List X) → AllPairs R xs → ((x y : X) → Contains xs x → Contains xs y → R x y → S x y) → AllPairs S xs
pairs_with R S xs all so i j d l m = so (get_or xs i d) (get_or xs j d) (Contains-get_or xs i d (omega arith)) (Contains-get_or xs j d m) (all i j d l m)

pub pairs_map : {X Y : Type 0} (R : Y → Y → Type 0) (f : X → Y) (xs : List X) → AllPairs (λ a b. R (f a) (f b)) xs → AllPairs R (map f xs)
pairs_map R f [] all = λ i j d l m. absurd (omega arith)
pairs_map R f (x ∷ xs) all = AllPairs-cons R (f x) (map f xs) (All_of (R (f x)) (map f xs) (λ y h.
    let k = Contains_mapped f xs y h in
    subst (λ z. R (f x) z) k.2 (All-contains (λ b. R (f x) (f b)) xs k.0 (AllPairs_head (λ a b. R (f a) (f b)) x xs all) k.1)))
    (pairs_map R f xs (AllPairs_tail (λ a b. R (f a) (f b)) x xs all))

pub pairs_flat : {X Y : Type 0} (S : X → X → Type 0) (R : Y → Y → Type 0) (f : X → List Y) (xs : List X) → AllPairs S xs → ((x : X) → Contains xs x → AllPairs R (f x)) → ((x y : X) (a b : Y) → S x y → Contains (f x) a → Contains (f y) b → R a b) → AllPairs R (flat_map f xs)
pairs_flat S R f [] up each between = λ i j d l m. absurd (omega arith)
pairs_flat S R f (x ∷ xs) up each between = rw flat_map-cons (AllPairs-append R (f x) (flat_map f xs) (each x (Contains_here x xs))
    (pairs_flat S R f xs (AllPairs_tail S x xs up) (λ y h. each y (Contains_there x y xs h)) between)
    (λ a b ha hb.
    let k = Contains_flat_mapped f xs b hb in
    between x k.0 a b (All-contains (S x) xs k.0 (AllPairs_head S x xs up) k.1) ha k.2))

pub sorted_has : {X : Type 0} (number : X → ℕ) (n : ℕ) (xs : List X) (x : X) → Contains (sorted_by number n xs) x → Contains xs x × (number x < n)
unfolding sorted_by
sorted_has number n xs x h =
    let r = Contains_flat_mapped (λ v. filter (λ y. eqb (number y) v) xs) (range_with_len 0 n) x h in
    let k = Contains_filtered (λ y. eqb (number y) r.0) xs x r.2 in
    let e : number x ≡ r.0 = eqb-true _ _ k.1 in
    (k.0, omega (arith, e, (Contains_range 0 n r.0 r.1).1))

pub sorted_gives : {X : Type 0} (number : X → ℕ) (n : ℕ) (xs : List X) (x : X) → Contains xs x → number x < n → Contains (sorted_by number n xs) x
unfolding sorted_by
sorted_gives number n xs x h low =
    in_flat (λ v. filter (λ y. eqb (number y) v) xs) (range_with_len 0 n) (number x) x (Contains_in_range 0 n (number x) (omega arith) (omega arith))
    (in_filtered (λ y. eqb (number y) (number x)) xs x h (eq-eqb _ _ refl))

pub sorted_up : {X : Type 0} (number : X → ℕ) (n : ℕ) (xs : List X) → AllPairs (λ a b. number a ≢ number b) xs → AllPairs (λ a b. number a < number b) (sorted_by number n xs)
unfolding sorted_by
sorted_up {X} number n xs apart =
    pairs_flat (λ v w. v < w) (λ a b. number a < number b) (λ v. filter (λ y. eqb (number y) v) xs) (range_with_len 0 n) (range_ascending 0 n)
    (λ v h. pairs_with (λ a b. number a ≢ number b) (λ a b. number a < number b) (filter (λ y. eqb (number y) v) xs) (AllPairs-filter (λ a b. number a ≢ number b) (λ y. eqb (number y) v) xs apart) (λ a b ha hb ne.
    let ea : number a ≡ v = eqb-true _ _ (Contains_filtered (λ y. eqb (number y) v) xs a ha).1 in
    let eb : number b ≡ v = eqb-true _ _ (Contains_filtered (λ y. eqb (number y) v) xs b hb).1 in
    absurd (ne (ea ∙ sym eb))))
    (λ v w a b less ha hb.
    let ea : number a ≡ v = eqb-true _ _ (Contains_filtered (λ y. eqb (number y) v) xs a ha).1 in
    let eb : number b ≡ w = eqb-true _ _ (Contains_filtered (λ y. eqb (number y) w) xs b hb).1 in
    omega (arith, ea, eb, less))

pub in_order_has : (n : ℕ) (cs : List Chain) (c : Chain) → Contains (in_order n cs) c → Contains cs c
in_order_has n cs c h = firsts_from cs c (sorted_has (λ (k : Chain). k.order) n (firsts cs) c h).0

pub in_order_gives : (n : ℕ) (cs : List Chain) (c : Chain) → ((a b : Chain) → Contains cs a → Contains cs b → a.order ≡ b.order → a ≡ b) → c.order < n → Contains cs c → Contains (in_order n cs) c
in_order_gives n cs c once low h = sorted_gives (λ (k : Chain). k.order) n (firsts cs) c (firsts_all cs once c h) low

pub in_order_up : (n : ℕ) (cs : List Chain) → AllPairs (λ a b. a.order < b.order) (in_order n cs)
in_order_up n cs = sorted_up (λ (k : Chain). k.order) n (firsts cs) (firsts_apart cs)

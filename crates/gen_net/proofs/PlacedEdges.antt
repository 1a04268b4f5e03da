-- Edges that stand in their places are those of a network.
use Rattle.std.proofs.Common.{◌≡◌, ◌≢◌, ℕ, ◌+◌, ◌*◌, ◌<◌, inl, inr, true, false, ◌&&◌, ltb, eqb, List, [], ◌∷◌, length, map, Contains, AllPairs, refl, subst, ◌∙◌, arith}
use Rattle.std.specs.List.{range_with_len}
use Rattle.std.proofs.lemmas.Bool.{ltb-true, lt-ltb, le-ltb, eqb-true, cases_lt, eq-eqb}
use Rattle.std.proofs.lemmas.List.Kept.{AllPairs-cons}
use Rattle.std.proofs.Math.Bool.{and-eq-true_iff}
use Rattle.gen_types.proofs.Lists.{Contains_here, Contains_there, Contains_cases, Contains_nil, AllPairs_head, AllPairs_tail, All_of, Contains_mapped, Contains_in_range, length-le_from_distinct}
use Rattle.std.proofs.lemmas.List.{length-map}
use Rattle.std.proofs.lemmas.List.FromFn.{length-range_with_len}
use Rattle.std.proofs.lemmas.List.Elements.{All-contains}
use Rattle.gen_net.specs.Network.{Network, IsBefore, AreEdges, IsNetwork}
use Rattle.gen_net.specs.Edges.{goes_before, goes_first, in_place}

-- what a place in order says
record Placed (n : ℕ) (e : ℕ × ℕ) (es : List (ℕ × ℕ)) : Type 0 where
  up : e.0 < e.1
  below : e.1 < n
  first : goes_first e es ≡ true
  others : in_place n es ≡ true

placed : (n : ℕ) (e : ℕ × ℕ) (es : List (ℕ × ℕ)) → in_place n (e ∷ es) ≡ true → Placed n e es
placed n e es h =
    let last = (and-eq-true_iff (ltb e.0 e.1 && ltb e.1 n && goes_first e es) (in_place n es)).0 h in
    let third = (and-eq-true_iff (ltb e.0 e.1 && ltb e.1 n) (goes_first e es)).0 last.0 in
    let front = (and-eq-true_iff (ltb e.0 e.1) (ltb e.1 n)).0 third.0 in
    record { up = ltb-true _ _ front.0; below = ltb-true _ _ front.1; first = third.1; others = last.1 }

placed_back : (n : ℕ) (e : ℕ × ℕ) (es : List (ℕ × ℕ)) → e.0 < e.1 → e.1 < n → goes_first e es ≡ true → in_place n es ≡ true → in_place n (e ∷ es) ≡ true
placed_back n e es up below first others =
    let one : ltb e.0 e.1 ≡ true = lt-ltb _ _ up in
    let two : ltb e.1 n ≡ true = lt-ltb _ _ below in
    rw (one, two, first, others) refl

pub before_is : (e f : ℕ × ℕ) → goes_before e f ≡ true → IsBefore e f
before_is e f h = elim (cases_lt e.0 f.0) [
  | inl lt ↦ inl lt
  | inr le ↦
      let past : ltb e.0 f.0 ≡ false = le-ltb _ _ le in
      let same : (eqb e.0 f.0 && ltb e.1 f.1) ≡ true = rw past at h in
      let both = (and-eq-true_iff (eqb e.0 f.0) (ltb e.1 f.1)).0 same in
      inr (eqb-true _ _ both.0, ltb-true _ _ both.1)
]

pub before_again : (e f : ℕ × ℕ) → IsBefore e f → goes_before e f ≡ true
before_again e f h = elim h [
  | inl lt ↦ let l : ltb e.0 f.0 ≡ true = lt-ltb _ _ lt in rw l refl
  | inr same ↦
      let past : ltb e.0 f.0 ≡ false = le-ltb _ _ (omega (arith, same.0)) in
      let here : eqb e.0 f.0 ≡ true = eq-eqb _ _ same.0 in
      let l : ltb e.1 f.1 ≡ true = lt-ltb _ _ same.1 in
      rw (past, here, l) refl
]

pub before_all : (e f g : ℕ × ℕ) → IsBefore e f → IsBefore f g → IsBefore e g
before_all e f g h k = elim h [
  | inl l ↦ elim k [ inl m ↦ inl (omega arith) | inr m ↦ inl (omega (arith, m.0)) ]
  | inr l ↦ elim k [ inl m ↦ inl (omega (arith, l.0)) | inr m ↦ inr (l.0 ∙ m.0, omega (arith, l.1, m.1)) ]
]

-- ---- from places to a network's edges

placed_inside : (n : ℕ) (es : List (ℕ × ℕ)) → in_place n es ≡ true → (a b : ℕ) → Contains es (a, b) → (a < b) × (b < n)
placed_inside n [] h a b k = absurd (Contains_nil (a, b) k)
placed_inside n (e ∷ es) h a b k =
    let p = placed n e es h in
    elim (Contains_cases e (a, b) es k) [
      | inl same ↦ subst (λ (f : ℕ × ℕ). (f.0 < f.1) × (f.1 < n)) same (p.up, p.below)
      | inr later ↦ placed_inside n es p.others a b later
    ]

placed_ascend : (n : ℕ) (es : List (ℕ × ℕ)) → in_place n es ≡ true → AllPairs IsBefore es
placed_ascend n [] h = λ i j d l m. absurd (omega arith)
placed_ascend n (e ∷ []) h = λ i j d l m. absurd (omega arith)
placed_ascend n (e ∷ f ∷ es) h =
    let p = placed n e (f ∷ es) h in
    let later = placed_ascend n (f ∷ es) p.others in
    let next = before_is e f p.first in
    AllPairs-cons IsBefore e (f ∷ es) (All_of (IsBefore e) (f ∷ es) (λ g k. elim (Contains_cases f g es k) [
      | inl same ↦ subst (IsBefore e) same next
      | inr there ↦ before_all e f g next (All-contains (IsBefore f) es g (AllPairs_head IsBefore f es later) there)
    ])) later

pub placed_edges : (n : ℕ) (es : List (ℕ × ℕ)) → in_place n es ≡ true → AreEdges n es
placed_edges n es h = record { inside = placed_inside n es h; ascending = placed_ascend n es h }

-- ---- and back

first_again : (e : ℕ × ℕ) (es : List (ℕ × ℕ)) → AllPairs IsBefore (e ∷ es) → goes_first e es ≡ true
first_again e [] h = refl
first_again e (f ∷ es) h = before_again e f (h 0 1 e (omega arith) (omega arith))

in_place_again : (n : ℕ) (es : List (ℕ × ℕ)) → ((a b : ℕ) → Contains es (a, b) → (a < b) × (b < n)) → AllPairs IsBefore es → in_place n es ≡ true
in_place_again n [] inside up = refl
in_place_again n (e ∷ es) inside up =
    let here = inside e.0 e.1 (Contains_here e es) in
    placed_back n e es here.0 here.1 (first_again e es up)
    (in_place_again n es (λ a b k. inside a b (Contains_there e (a, b) es k)) (AllPairs_tail IsBefore e es up))

pub placed_again : (n : ℕ) (es : List (ℕ × ℕ)) → AreEdges n es → in_place n es ≡ true
placed_again n es edges = in_place_again n es edges.inside edges.ascending

-- ---- how many there are

-- an edge as one number
abbrev code : ℕ × ℕ → ℕ
code e = 16 * e.0 + e.1

apart : (es : List (ℕ × ℕ)) → ((a b : ℕ) → Contains es (a, b) → b < 16) → AllPairs IsBefore es → AllPairs (λ v w. v ≢ w) (map code es)
apart [] low up = λ i j d l m. absurd (omega arith)
apart (e ∷ es) low up =
    AllPairs-cons (λ v w. v ≢ w) (code e) (map code es) (All_of (λ w. code e ≢ w) (map code es) (λ w k.
    let r = Contains_mapped code es w k in
    let b0 = low e.0 e.1 (Contains_here e es) in
    let b1 = low r.0.0 r.0.1 (Contains_there e r.0 es r.1) in
    let before = All-contains (IsBefore e) es r.0 (AllPairs_head IsBefore e es up) r.1 in
    λ same. elim before [ inl l ↦ omega (arith, same, r.2, b0, b1) | inr l ↦ omega (arith, same, r.2, l.0, l.1) ]))
    (apart es (λ a b k. low a b (Contains_there e (a, b) es k)) (AllPairs_tail IsBefore e es up))

-- a network has fewer than 256 edges
pub few_edges : (net : Network) → IsNetwork net → length net.edges < 256
few_edges net ok =
    let low : (a b : ℕ) → Contains net.edges (a, b) → (a < b) × (b < 16) = λ a b k. let r = ok.edges.inside a b k in (r.0, omega (arith, r.1, ok.ranges.few_generals)) in
    let inside : (x : ℕ) → Contains (map code net.edges) x → Contains (range_with_len 0 240) x = λ x k.
    let r = Contains_mapped code net.edges x k in
    let b = low r.0.0 r.0.1 r.1 in
    Contains_in_range 0 240 x (omega arith) (omega (arith, r.2, b.0, b.1)) in
    omega (arith, length-map net.edges code, length-range_with_len 0 240, length-le_from_distinct (map code net.edges) (range_with_len 0 240) (apart net.edges (λ a b k. (low a b k).1) ok.edges.ascending) inside)

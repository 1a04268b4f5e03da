-- What a general heard stands in the order of rounds and of senders, so the first of an order is the least sender's in the
-- round in which he adds it.
use Rattle.std.proofs.Common.{◌≡◌, ◌<◌, ◌≤◌, ◌⊎◌, inl, inr, ℕ, zero, suc, List, [], ◌∷◌, get_or, Contains, AllPairs, refl, sym, ap, subst, ◌∙◌, arith, eqb, Some}
use Rattle.std.specs.List.{flat_map}
use Rattle.std.proofs.lemmas.Bool.{eqb-true, eq-eqb}
use Rattle.std.proofs.lemmas.List.Concat.{flat_map-cons}
use Rattle.std.proofs.lemmas.List.Elements.{All-contains, Contains-get_or}
use Rattle.gen_types.proofs.Lists.{Contains_here, Contains_there, Contains_cases, Contains_nil, Contains_mapped, Contains_flat_mapped, AllPairs_head, AllPairs_tail, AllPairs-append, bool_cases}
use Rattle.gen_chain.specs.Chain.{Chain}
use Rattle.gen_scenario.specs.declared.heard.Heard.{Heard}
use Rattle.gen_scenario.specs.Scenario.{Scenario, header_of}
use Rattle.gen_scenario.proofs.HeardBy.{by_has, counted_facts, neighbours_ascend}
use Rattle.gen_scenario.specs.Counted.{counted_of}
use Rattle.gen_scenario.specs.SignedWorld.{delivery, heard_by, heard_in, heard_of, neighbours_of, sender_of}
use Rattle.gen_scenario.specs.Heard.{first_of, round_of}
use Rattle.gen_scenario.specs.Frames.{frame_of}
use Rattle.gen_scenario.proofs.Having.{true_false}

pub pairs_of : {X : Type 0} (R : X → X → Type 0) (xs : List X) → ((x y : X) → Contains xs x → Contains xs y → R x y) → AllPairs R xs
pairs_of R xs all i j d l m = all (get_or xs i d) (get_or xs j d) (Contains-get_or xs i d (omega arith)) (Contains-get_or xs j d m)

-- heard in an earlier round, or in the same from a sender who isn't greater
abbrev pub NotLater : Heard → Heard → Type 0
NotLater x y = (round_of x < round_of y) ⊎ ((round_of x ≡ round_of y) × (x.from ≤ y.from))

-- what one sender's frame brings
from_one : (s : Scenario) (j g f : ℕ) (x : Heard) → Contains (heard_of s (heard_by s j) (suc j) g f) x → (x.from ≡ f) × (round_of x ≡ suc j)
from_one s j g f x h =
    let c = Contains_mapped (λ (c : Chain). record { from = f; chain = c }) (counted_of (header_of s) (delivery (suc j) f g) (frame_of (sender_of s f) (heard_by s j f) (suc j) g)) x h in
    let facts = counted_facts s j f g c.0 c.1 in
    (ap (λ (y : Heard). y.from) (sym c.2), ap round_of (sym c.2) ∙ facts.long)

senders_in_order : (s : Scenario) (j g : ℕ) (froms : List ℕ) → AllPairs (λ v w. v < w) froms → AllPairs NotLater (flat_map (heard_of s (heard_by s j) (suc j) g) froms)
senders_in_order s j g [] up = λ i k d l m. absurd (omega arith)
senders_in_order s j g (f ∷ froms) up = rw flat_map-cons (AllPairs-append NotLater (heard_of s (heard_by s j) (suc j) g f) (flat_map (heard_of s (heard_by s j) (suc j) g) froms)
    (pairs_of NotLater (heard_of s (heard_by s j) (suc j) g f) (λ x y hx hy.
    let a = from_one s j g f x hx in
    let b = from_one s j g f y hy in
    inr (a.1 ∙ sym b.1, omega (arith, a.0, b.0))))
    (senders_in_order s j g froms (AllPairs_tail (λ v w. v < w) f froms up))
    (λ x y hx hy.
    let a = from_one s j g f x hx in
    let r = Contains_flat_mapped (heard_of s (heard_by s j) (suc j) g) froms y hy in
    let b = from_one s j g r.0 y r.2 in
    let less : f < r.0 = All-contains (λ w. f < w) froms r.0 (AllPairs_head (λ v w. v < w) f froms up) r.1 in
    inr (a.1 ∙ sym b.1, omega (arith, a.0, b.0, less))))

pub heard_in_order : (s : Scenario) (k g : ℕ) → AllPairs NotLater (heard_by s k g)
unfolding heard_by heard_in
heard_in_order s zero g = λ i j d l m. absurd (omega arith)
heard_in_order s (suc k) g = AllPairs-append NotLater (heard_by s k g) (heard_in s (heard_by s k) (suc k) g) (heard_in_order s k g) (senders_in_order s k g (neighbours_of s.net g) (neighbours_ascend s.net g)) (λ x y hx hy.
    let a = by_has s k g x hx in
    let before = (counted_facts s a.0 x.from g x.chain a.2.counts).long in
    let r = Contains_flat_mapped (heard_of s (heard_by s k) (suc k) g) (neighbours_of s.net g) y hy in
    let b = from_one s k g r.0 y r.2 in
    inl (omega (arith, before, a.1, b.1)))

-- the first of an order
pub record IsFirst (order : ℕ) (xs : List Heard) (x : Heard) : Type 0 where
  pub stands : Contains xs x
  pub order_is : x.chain.order ≡ order
  pub first : (y : Heard) → Contains xs y → y.chain.order ≡ order → (x ≡ y) ⊎ NotLater x y

pub first_is : (order : ℕ) (xs : List Heard) (x : Heard) → AllPairs NotLater xs → first_of order xs ≡ Some x → IsFirst order xs x
unfolding first_of
first_is order [] x up e = absurd cc
first_is order (a ∷ xs) x up e = elim (bool_cases (eqb a.chain.order order)) [
  | inl here ↦
      let found : Some a ≡ Some x = rw here at e in
      let same : a ≡ x = cc in
      record {
        stands = subst (λ z. Contains (a ∷ xs) z) same (Contains_here a xs);
        order_is = subst (λ (z : Heard). z.chain.order ≡ order) same (eqb-true _ _ here);
        first = λ y h o. elim (Contains_cases a y xs h) [
          | inl k ↦ inl (sym same ∙ k)
          | inr k ↦ inr (subst (λ z. NotLater z y) same (All-contains (NotLater a) xs y (AllPairs_head NotLater a xs up) k))
        ];
      }
  | inr out ↦
      let found : first_of order xs ≡ Some x = rw out at e in
      let r = first_is order xs x (AllPairs_tail NotLater a xs up) found in
      record {
        stands = Contains_there a x xs r.stands;
        order_is = r.order_is;
        first = λ y h o. elim (Contains_cases a y xs h) [
          | inl k ↦ absurd (true_false (eqb a.chain.order order) (eq-eqb _ _ (ap (λ (z : Heard). z.chain.order) k ∙ o)) out)
          | inr k ↦ r.first y k o
        ];
      }
]

-- an order that was heard has a first
pub has_first : (order : ℕ) (xs : List Heard) (y : Heard) → Contains xs y → y.chain.order ≡ order → (x : Heard) × (first_of order xs ≡ Some x)
unfolding first_of
has_first order [] y h o = absurd (Contains_nil y h)
has_first order (a ∷ xs) y h o = elim (bool_cases (eqb a.chain.order order)) [
  | inl here ↦ (a, rw here refl)
  | inr out ↦ elim (Contains_cases a y xs h) [
    | inl k ↦ absurd (true_false (eqb a.chain.order order) (eq-eqb _ _ (ap (λ (z : Heard). z.chain.order) k ∙ o)) out)
    | inr k ↦ let r = has_first order xs y k o in (r.0, rw out r.1)
  ]
]

-- and it stands there
pub first_in : (order : ℕ) (xs : List Heard) (x : Heard) → first_of order xs ≡ Some x → Contains xs x
unfolding first_of
first_in order [] x e = absurd cc
first_in order (y ∷ xs) x e = elim (bool_cases (eqb y.chain.order order)) [
  | inl here ↦
      let found : Some y ≡ Some x = rw here at e in
      let same : y ≡ x = cc in
      subst (λ z. Contains (y ∷ xs) z) same (Contains_here y xs)
  | inr later ↦ let there : first_of order xs ≡ Some x = rw later at e in Contains_there y x xs (first_in order xs x there)
]

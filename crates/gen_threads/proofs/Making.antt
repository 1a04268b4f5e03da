-- The edges of a run and their passes, while they are made.
use Rattle.std.proofs.Common.{◌≡◌, ◌≢◌, ◌↔◌, ℕ, zero, suc, ◌+◌, ◌*◌, ◌<◌, Bool, true, false, List, [], ◌∷◌, ◌++◌, length, Option, Some, None, refl, sym, ap, subst, ◌∙◌, eqb, inl, inr, nat_lt, slice_index_or, arith, append-nil, length-append}
use Rattle.std.specs.List.{range_with_len, list_any, AllZip}
use Rattle.std.proofs.lemmas.Bool.{eqb-true, lt-ltb, le-ltb, ltb-true, ltb-false}
use Rattle.gen_types.proofs.Lists.{bool_cases}
use Rattle.std.specs.Prelude.{IsTrue}
use Rattle.gen_net.specs.Edges.{joins}
use Rattle.gen_net.specs.Network.{Network, AreNeighbours}
use Rattle.gen_edge.specs.declared.passes.Edge.{Edge}
use Rattle.gen_edge.specs.declared.passes.PutPass.{PutPass}
use Rattle.gen_edge.specs.declared.passes.TakePass.{TakePass}
use Rattle.gen_edge.specs.Ends.{IsPutPassOf, IsTakePassOf, put_view, take_view}
use Rattle.gen_edge.specs.Frames.{edge_frames}
use Rattle.gen_edge.specs.Tied.{putter, taker}
use Rattle.gen_scenario.specs.Scenario.{Scenario}
use Rattle.gen_scenario.specs.SignedWorld.{near_of}
use Rattle.gen_general.proofs.Worlds.{eqb_not, near_more, near_in, near_out}
use Rattle.gen_threads.specs.declared.edges.Edges.{Edges}
use Rattle.gen_threads.specs.declared.edges.Passes.{Passes}
use Rattle.gen_threads.specs.Building.{puts_below, takes_below, ArePutsBelow, AreTakesBelow, AreMade, HasMore, HasMorePuts, HasMoreTakes}
use Rattle.gen_threads.specs.Edges.{edge_at, HasPut, HasTaken, HasTakenBy}

-- ---- lists side by side

pub zip_map : {A B : Type 0} (R S : A → B → Type 0) → ((x : A) (y : B) → R x y → S x y) → (xs : List A) (ys : List B) → AllZip R xs ys → AllZip S xs ys
zip_map R S f [] [] h = h
zip_map R S f [] (y ∷ ys) h = absurd h
zip_map R S f (x ∷ xs) [] h = absurd h
zip_map R S f (x ∷ xs) (y ∷ ys) h = (f x y h.0, zip_map R S f xs ys h.1)

pub zip_push : {A B : Type 0} (R : A → B → Type 0) (xs : List A) (ys : List B) (x : A) (y : B) → AllZip R xs ys → R x y → AllZip R (xs ++ x ∷ []) (ys ++ y ∷ [])
zip_push R [] [] x y h one = (one, h)
zip_push R [] (z ∷ zs) x y h one = absurd h
zip_push R (z ∷ zs) [] x y h one = absurd h
zip_push R (z ∷ zs) (w ∷ ws) x y h one = (h.0, zip_push R zs ws x y h.1 one)

-- ---- the table

some_not_none : {X : Type 0} (x : X) → None ≡ Some x → ⊥
some_not_none x e = absurd cc

kept_at : (xs : List (Option Edge)) (x : Option Edge) (k : ℕ) (e : Edge) → slice_index_or xs k None ≡ Some e → slice_index_or (xs ++ x ∷ []) k None ≡ Some e
kept_at [] x k e h = absurd (some_not_none e h)
kept_at (y ∷ ys) x zero e h = h
kept_at (y ∷ ys) x (suc k) e h = kept_at ys x k e h

at_end : (xs : List (Option Edge)) (x : Option Edge) → slice_index_or (xs ++ x ∷ []) (length xs) None ≡ x
at_end [] x = refl
at_end (y ∷ ys) x = at_end ys x

edge_kept : (x : Option Edge) (old new : Edges) (a b : ℕ) (e : Edge) → HasMore x old new → edge_at old a b ≡ Some e → edge_at new a b ≡ Some e
edge_kept x old new a b e more h = elim (bool_cases (nat_lt b old.generals)) [
  | inl t ↦
      let was : slice_index_or old.table.items (a * old.generals + b) None ≡ Some e = rw t at h in
      let is = kept_at old.table.items x (a * old.generals + b) e was in
      rw (more.generals, more.table, t) is
  | inr f ↦ absurd (some_not_none e (rw f at h))
]

edge_new : (x : Edge) (old new : Edges) (a b : ℕ) → HasMore (Some x) old new → b < old.generals → length old.table.items ≡ a * old.generals + b → edge_at new a b ≡ Some x
edge_new x old new a b more low cell =
    let t : nat_lt b old.generals ≡ true = lt-ltb b old.generals low in
    let is : slice_index_or (old.table.items ++ Some x ∷ []) (a * old.generals + b) None ≡ Some x = ap (λ k. slice_index_or (old.table.items ++ Some x ∷ []) k None) (sym cell) ∙ at_end old.table.items (Some x) in
    rw (more.generals, more.table, t) is

put_kept : (x : Option Edge) (old new : Edges) (s : Scenario) (a b : ℕ) (p : PutPass) → HasMore x old new → HasPut old s 0 a b p → HasPut new s 0 a b p
put_kept x old new s a b p more h = record {
  on = record { edge = h.on.edge; there = edge_kept x old new a b h.on.edge more h.on.there; of_edge = h.on.of_edge };
  view = h.view;
}

take_kept : (x : Option Edge) (old new : Edges) (s : Scenario) (a b : ℕ) (p : TakePass) → HasMore x old new → HasTaken old s 0 a b p → HasTaken new s 0 a b p
take_kept x old new s a b p more h = record {
  on = record { edge = h.on.edge; there = edge_kept x old new a b h.on.edge more h.on.there; of_edge = h.on.of_edge };
  view = h.view;
}

puts_kept : (x : Option Edge) (old new : Edges) (s : Scenario) (g below : ℕ) (puts : List PutPass) → HasMore x old new → ArePutsBelow old s g below puts → ArePutsBelow new s g below puts
puts_kept x old new s g below puts more = zip_map (HasPut old s 0 g) (HasPut new s 0 g) (λ h p. put_kept x old new s g h p more) (near_of s.net g (range_with_len 0 below)) puts

takes_kept : (x : Option Edge) (old new : Edges) (s : Scenario) (g below : ℕ) (takes : List TakePass) → HasMore x old new → AreTakesBelow old s g below takes → AreTakesBelow new s g below takes
takes_kept x old new s g below takes more = zip_map (HasTakenBy old s 0 g) (HasTakenBy new s 0 g) (λ h p. take_kept x old new s h g p more) (near_of s.net g (range_with_len 0 below)) takes

-- ---- neighbours

pub joined_back : (net : Network) (a b : ℕ) (t : Bool) → (IsTrue t ↔ AreNeighbours net a b) → (IsTrue t ↔ AreNeighbours net b a)
joined_back net a b t both = (λ h. turned a b (both.0 h), λ h. both.1 (turned b a h))
  where
    turned : (x y : ℕ) → AreNeighbours net x y → AreNeighbours net y x
    turned x y h = elim h [ inl p ↦ inr p | inr q ↦ inl q ]

-- ---- how far they are

puts_other : (n from to g : ℕ) → g ≢ from → puts_below n from (to + 1) g ≡ puts_below n from to g
puts_other n from to g other = elim (bool_cases (nat_lt g from)) [
  | inl t ↦ rw t refl
  | inr f ↦ elim (bool_cases (nat_lt from g)) [
    | inl t ↦ rw (f, t) refl
    | inr f2 ↦ absurd (other (between g from f f2))
  ]
]
  where
    between : (a b : ℕ) → nat_lt a b ≡ false → nat_lt b a ≡ false → a ≡ b
    between a b x y = omega (arith, ltb-false a b x, ltb-false b a y)

puts_here : (n from to : ℕ) → puts_below n from to from ≡ to
puts_here n from to = let f : nat_lt from from ≡ false = le-ltb from from (omega arith) in rw f refl

takes_other : (from to g : ℕ) → g ≢ to → takes_below from (to + 1) g ≡ takes_below from to g
takes_other from to g other = elim (bool_cases (nat_lt g to)) [
  | inl t ↦
      let u : nat_lt g (to + 1) ≡ true = lt-ltb g (to + 1) (omega (arith, ltb-true g to t)) in
      rw (t, u) refl
  | inr f ↦
      let u : nat_lt g (to + 1) ≡ false = le-ltb g (to + 1) (omega (arith, ltb-false g to f, other)) in
      rw (f, u) refl
]

takes_before : (from to : ℕ) → takes_below from to to ≡ from
takes_before from to = let f : nat_lt to to ≡ false = le-ltb to to (omega arith) in rw f refl

takes_after : (from to : ℕ) → takes_below from (to + 1) to ≡ from + 1
takes_after from to = let t : nat_lt to (to + 1) ≡ true = lt-ltb to (to + 1) (omega arith) in rw t refl

-- ---- a cell of the table

-- where there is no edge
near_far : (s : Scenario) (g h : ℕ) → list_any (joins g h) s.net.edges ≡ false → near_of s.net g (range_with_len 0 (h + 1)) ≡ near_of s.net g (range_with_len 0 h)
near_far s g h far =
    sym (near_more s.net g h) ∙ ap (λ xs. near_of s.net g (range_with_len 0 h) ++ xs) (near_out s.net g h far) ∙ append-nil (near_of s.net g (range_with_len 0 h))

near_near : (s : Scenario) (g h : ℕ) → list_any (joins g h) s.net.edges ≡ true → near_of s.net g (range_with_len 0 (h + 1)) ≡ near_of s.net g (range_with_len 0 h) ++ h ∷ []
near_near s g h near =
    sym (near_more s.net g h) ∙ ap (λ xs. near_of s.net g (range_with_len 0 h) ++ xs) (near_in s.net g h near)

counted : (x : Option Edge) (old new : Edges) (k : ℕ) → HasMore x old new → length old.table.items ≡ k → length new.table.items ≡ k + 1
counted x old new k more count = ap length more.table ∙ length-append old.table.items (x ∷ []) ∙ ap (λ n. n + 1) count

module _ (s : Scenario) (from to : ℕ) (old new : Edges) (all : List Passes) where
  cell_next : (n : ℕ) → from * n + to + 1 ≡ from * n + (to + 1)
  cell_next n = omega arith

  far_puts : HasMore None old new → list_any (joins from to) s.net.edges ≡ false → AreMade s from to old all → (g : ℕ) (d : Passes) → g < s.net.generals
      → ArePutsBelow new s g (puts_below s.net.generals from (to + 1) g) (slice_index_or all g d).puts.items
  far_puts more far made g d low =
      let kept = puts_kept None old new s g (puts_below s.net.generals from to g) (slice_index_or all g d).puts.items more (made.puts g d low) in
      elim (bool_cases (eqb g from)) [
        | inl t ↦
            let e = eqb-true g from t in
            let is : near_of s.net g (range_with_len 0 (puts_below s.net.generals from to g)) ≡ near_of s.net g (range_with_len 0 (puts_below s.net.generals from (to + 1) g)) =
            rw e (ap (λ k. near_of s.net from (range_with_len 0 k)) (puts_here s.net.generals from to) ∙ sym (near_far s from to far) ∙ ap (λ k. near_of s.net from (range_with_len 0 k)) (sym (puts_here s.net.generals from (to + 1)))) in
            subst (λ near. AllZip (HasPut new s 0 g) near (slice_index_or all g d).puts.items) is kept
        | inr f ↦ subst (λ below. ArePutsBelow new s g below (slice_index_or all g d).puts.items) (sym (puts_other s.net.generals from to g (eqb_not g from f))) kept
      ]

  far_takes : HasMore None old new → list_any (joins to from) s.net.edges ≡ false → AreMade s from to old all → (g : ℕ) (d : Passes) → g < s.net.generals
      → AreTakesBelow new s g (takes_below from (to + 1) g) (slice_index_or all g d).takes.items
  far_takes more far made g d low =
      let kept = takes_kept None old new s g (takes_below from to g) (slice_index_or all g d).takes.items more (made.takes g d low) in
      elim (bool_cases (eqb g to)) [
        | inl t ↦
            let e = eqb-true g to t in
            let is : near_of s.net g (range_with_len 0 (takes_below from to g)) ≡ near_of s.net g (range_with_len 0 (takes_below from (to + 1) g)) =
            rw e (ap (λ k. near_of s.net to (range_with_len 0 k)) (takes_before from to) ∙ sym (near_far s to from far) ∙ ap (λ k. near_of s.net to (range_with_len 0 k)) (sym (takes_after from to))) in
            subst (λ near. AllZip (HasTakenBy new s 0 g) near (slice_index_or all g d).takes.items) is kept
        | inr f ↦ subst (λ below. AreTakesBelow new s g below (slice_index_or all g d).takes.items) (sym (takes_other from to g (eqb_not g to f))) kept
      ]

  pub made_far : HasMore None old new → list_any (joins from to) s.net.edges ≡ false → list_any (joins to from) s.net.edges ≡ false → AreMade s from to old all → AreMade s from (to + 1) new all
  made_far more far back made = record {
    generals = more.generals ∙ made.generals;
    count = counted None old new (from * s.net.generals + to) more made.count ∙ cell_next s.net.generals;
    passes = made.passes;
    puts = far_puts more far made;
    takes = far_takes more back made;
  }

-- where there is one
module _ (s : Scenario) (from to : ℕ) (old new : Edges) (all mid next : List Passes) (edge : Edge) (put : PutPass) (take : TakePass) where
  near_puts : HasMore (Some edge) old new → HasMorePuts from put all mid → HasMoreTakes to take mid next → HasPut new s 0 from to put → list_any (joins from to) s.net.edges ≡ true → from < s.net.generals
      → AreMade s from to old all → (g : ℕ) (d : Passes) → g < s.net.generals → ArePutsBelow new s g (puts_below s.net.generals from (to + 1) g) (slice_index_or next g d).puts.items
  near_puts more one two has near known made g d low =
      let kept = puts_kept (Some edge) old new s g (puts_below s.net.generals from to g) (slice_index_or all g d).puts.items more (made.puts g d low) in
      let same : (slice_index_or next g d).puts.items ≡ (slice_index_or mid g d).puts.items = elim (bool_cases (eqb g to)) [
        | inl t ↦ rw (eqb-true g to t) (two.puts d)
        | inr f ↦ ap (λ (x : Passes). x.puts.items) (two.others g d (eqb_not g to f))
      ] in
      elim (bool_cases (eqb g from)) [
        | inl t ↦
            let e = eqb-true g from t in
            let here : AllZip (HasPut new s 0 from) (near_of s.net from (range_with_len 0 to)) (slice_index_or all from d).puts.items = rw (e, puts_here s.net.generals from to) at kept in
            let grown = zip_push (HasPut new s 0 from) _ _ to put here has in
            let named : AllZip (HasPut new s 0 from) (near_of s.net from (range_with_len 0 (to + 1))) (slice_index_or mid from d).puts.items = rw (near_near s from to near, one.puts d) grown in
            rw (same, e, puts_here s.net.generals from (to + 1)) named
        | inr f ↦
            let other = eqb_not g from f in
            rw (same, one.others g d other, puts_other s.net.generals from to g other) kept
      ]

  near_takes : HasMore (Some edge) old new → HasMorePuts from put all mid → HasMoreTakes to take mid next → HasTakenBy new s 0 to from take → list_any (joins to from) s.net.edges ≡ true
      → AreMade s from to old all → (g : ℕ) (d : Passes) → g < s.net.generals → AreTakesBelow new s g (takes_below from (to + 1) g) (slice_index_or next g d).takes.items
  near_takes more one two has near made g d low =
      let kept = takes_kept (Some edge) old new s g (takes_below from to g) (slice_index_or all g d).takes.items more (made.takes g d low) in
      let same : (slice_index_or mid g d).takes.items ≡ (slice_index_or all g d).takes.items = elim (bool_cases (eqb g from)) [
        | inl t ↦ rw (eqb-true g from t) (one.takes d)
        | inr f ↦ ap (λ (x : Passes). x.takes.items) (one.others g d (eqb_not g from f))
      ] in
      elim (bool_cases (eqb g to)) [
        | inl t ↦
            let e = eqb-true g to t in
            let here : AllZip (HasTakenBy new s 0 to) (near_of s.net to (range_with_len 0 from)) (slice_index_or all to d).takes.items = rw (e, takes_before from to) at kept in
            let same_to : (slice_index_or mid to d).takes.items ≡ (slice_index_or all to d).takes.items = rw e at same in
            let grown = zip_push (HasTakenBy new s 0 to) _ _ from take here has in
            let named : AllZip (HasTakenBy new s 0 to) (near_of s.net to (range_with_len 0 (from + 1))) (slice_index_or next to d).takes.items = rw (near_near s to from near, two.takes d, same_to) grown in
            rw (e, takes_after from to) named
        | inr f ↦
            let other = eqb_not g to f in
            rw (two.others g d other, same, takes_other from to g other) kept
      ]

  pub made_near : HasMore (Some edge) old new → HasMorePuts from put all mid → HasMoreTakes to take mid next → HasPut new s 0 from to put → HasTakenBy new s 0 to from take
      → list_any (joins from to) s.net.edges ≡ true → list_any (joins to from) s.net.edges ≡ true → from < s.net.generals → AreMade s from to old all → AreMade s from (to + 1) new next
  made_near more one two puts takes near back known made = record {
    generals = more.generals ∙ made.generals;
    count = counted (Some edge) old new (from * s.net.generals + to) more made.count ∙ next_place s.net.generals;
    passes = two.count ∙ one.count ∙ made.passes;
    puts = near_puts more one two puts near known made;
    takes = near_takes more one two takes back made;
  }
    where
      next_place : (n : ℕ) → from * n + to + 1 ≡ from * n + (to + 1)
      next_place n = omega arith

-- ---- the new edge's passes

pub new_put : (s : Scenario) (a b : ℕ) (old new : Edges) (edge : Edge) (put : PutPass) → HasMore (Some edge) old new → b < old.generals → length old.table.items ≡ a * old.generals + b
    → IsPutPassOf edge put → put_view put ≡ putter (edge_frames s a b) → HasPut new s 0 a b put
new_put s a b old new edge put more low cell of_edge view = record {
  on = record { edge = edge; there = edge_new edge old new a b more low cell; of_edge = of_edge };
  view = view;
}

pub new_take : (s : Scenario) (a b : ℕ) (old new : Edges) (edge : Edge) (take : TakePass) → HasMore (Some edge) old new → b < old.generals → length old.table.items ≡ a * old.generals + b
    → IsTakePassOf edge take → take_view take ≡ taker (edge_frames s a b) → HasTakenBy new s 0 b a take
new_take s a b old new edge take more low cell of_edge view = record {
  on = record { edge = edge; there = edge_new edge old new a b more low cell; of_edge = of_edge };
  view = view;
}

-- ---- the start and the end

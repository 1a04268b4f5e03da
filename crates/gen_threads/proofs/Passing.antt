-- The passes of a general, one for each neighbour.
use Rattle.std.proofs.Common.{◌≡◌, ℕ, ◌+◌, ◌<◌, ◌≤◌, ◌⊎◌, inl, inr, List, length, slice_index_or, slice_set, true, false, Option, Some, None, refl, sym, ap, subst, ◌∙◌, arith}
use Rattle.std.specs.Prelude.{IsSome, option_map, nat_lt}
use Rattle.std.specs.List.{range_with_len, list_any, AllZip}
use Rattle.std.proofs.lemmas.Bool.{lt-ltb, cases_Bool, ltb-true}
use Rattle.gen_net.specs.Edges.{joins}
use Rattle.gen_net.specs.Network.{Network, AreNeighbours}
use Rattle.gen_general.proofs.Worlds.{near_known}
use Rattle.gen_scenario.specs.SignedWorld.{neighbours_of}
use Rattle.gen_scenario.specs.SignedWorld.{near_of}
use Rattle.gen_threads.specs.Turns.{carried_until, index_of_next}
use Rattle.gen_threads.proofs.Nears.{near_cut}
use Rattle.gen_threads.proofs.Zips.{zip_some, zip_inside, zip_at, zip_set}

-- ---- what was looked up

pub is_there : {X Y : Type 0} (f : X → Y) (o : Option X) (other : Option Y) (y : Y) → option_map f o ≡ other → other ≡ Some y → IsSome o
is_there f None other y e there = let n : None ≡ Some y = e ∙ there in absurd cc
is_there f (Some x) other y e there = refl

some_inside : {Y : Type 0} (a b : Y) → Some a ≡ Some b → a ≡ b
some_inside a b e = cc

pub is_that : {X Y : Type 0} (f : X → Y) (o : Option X) (other : Option Y) (x : X) (y : Y) → option_map f o ≡ other → other ≡ Some y → o ≡ Some x → f x ≡ y
is_that f o other x y e there found = some_inside (f x) y (sym (ap (option_map f) found) ∙ e ∙ there)

-- ---- at the index of a neighbour

edge_joins : (net : Network) (g h : ℕ) → AreNeighbours net g h → list_any (joins g h) net.edges ≡ true
edge_joins net g h joined = near_known net true g h ((λ _. joined), λ _. refl)

module _ (net : Network) (g h : ℕ) (known : h < net.generals) (joined : AreNeighbours net g h) {P : Type 0} (passes : List P) (index : ℕ) (here : index ≡ index_of_next net g h) where
  pub near_some : (R : ℕ → P → Type 0) → AllZip R (neighbours_of net g) passes → (p : P) × R h p
  near_some R all =
      let cut = near_cut net g h (edge_joins net g h joined) known in
      zip_some R (near_of net g (range_with_len 0 h)) h cut.back passes (subst (λ (xs : List ℕ). AllZip R xs passes) cut.cut all)

  pub near_inside : (R : ℕ → P → Type 0) → AllZip R (neighbours_of net g) passes → index < length passes
  near_inside R all =
      let cut = near_cut net g h (edge_joins net g h joined) known in
      let r = zip_inside R (near_of net g (range_with_len 0 h)) h cut.back passes (subst (λ (xs : List ℕ). AllZip R xs passes) cut.cut all) in
      omega (arith, r, here)

  pub near_at : (R : ℕ → P → Type 0) → AllZip R (neighbours_of net g) passes → (p : P) → p ≡ slice_index_or passes index p → R h p
  near_at R all p at =
      let cut = near_cut net g h (edge_joins net g h joined) known in
      let r = zip_at R (near_of net g (range_with_len 0 h)) h cut.back passes p (subst (λ (xs : List ℕ). AllZip R xs passes) cut.cut all) in
      subst (R h) (sym (at ∙ ap (λ k. slice_index_or passes k p) here)) r

  pub near_set : (R S : ℕ → P → Type 0) → ((a : ℕ) (b : P) → (a < h) ⊎ (h < a) → R a b → S a b) → (p : P) → S h p → AllZip R (neighbours_of net g) passes → AllZip S (neighbours_of net g) (slice_set passes index p)
  near_set R S others p one all =
      let cut = near_cut net g h (edge_joins net g h joined) known in
      let r = zip_set R S (near_of net g (range_with_len 0 h)) h cut.back passes p
      (λ a b m. others a b (inl (cut.below a m))) one (λ a b m. others a b (inr (cut.above a m))) (subst (λ (xs : List ℕ). AllZip R xs passes) cut.cut all) in
      subst (λ k. AllZip S (neighbours_of net g) (slice_set passes k p)) (sym here) (subst (λ (xs : List ℕ). AllZip S xs (slice_set passes (length (near_of net g (range_with_len 0 h))) p)) (sym cut.cut) r)

-- ---- how many frames went over an edge

not_less : (a b : ℕ) → b ≤ a → nat_lt a b ≡ false
not_less a b high = elim (cases_Bool (nat_lt a b)) [ inl t ↦ absurd (omega (arith, ltb-true a b t, high)) | inr f ↦ f ]

pub carried_below : (gone n h : ℕ) → h < n → carried_until gone n h ≡ gone + 1
carried_below gone n h low = rw (lt-ltb h n low) refl

pub carried_above : (gone n h : ℕ) → n ≤ h → carried_until gone n h ≡ gone
carried_above gone n h high = rw (not_less h n high) refl

pub carried_others : (gone h a : ℕ) → (a < h) ⊎ (h < a) → carried_until gone h a ≡ carried_until gone (h + 1) a
carried_others gone h a (inl low) = carried_below gone h a low ∙ sym (carried_below gone (h + 1) a (omega (arith, low)))
carried_others gone h a (inr high) = carried_above gone h a (omega (arith, high)) ∙ sym (carried_above gone (h + 1) a (omega (arith, high)))

-- Making the list of a general's acts.
use Rattle.std.proofs.Common.{◌≡◌, ℕ, zero, suc, ◌+◌, ◌-◌, ◌≤◌, ◌↔◌, Bool, true, false, List, [], ◌∷◌, ◌++◌, filter, IsTrue, inl, inr, sym, ap, ◌∙◌, arith, append_assoc}
use Rattle.std.proofs.lemmas.List.{append-nil}
use Rattle.std.specs.List.{list_any, range_with_len}
use Rattle.std.proofs.lemmas.Bool.{cases_Bool, cond-true, cond-false}
use Rattle.gen_types.specs.Members.{filter_more}
use Rattle.gen_net.specs.Network.{Network, AreNeighbours, rounds}
use Rattle.gen_net.specs.Edges.{joins}
use Rattle.gen_scenario.specs.SignedWorld.{neighbours_of}
use Rattle.gen_async.specs.declared.acts.Act.{Act}
use Rattle.gen_async.specs.Acts.{acts_of_round, acts_of_rounds, acts_of}
use Rattle.gen_async.proofs.Near.{any_joins, joined_holds}

module _ (net : Network) (me k g : ℕ) (same : g ≡ k) (answered : Bool) (says : IsTrue answered ↔ AreNeighbours net me g) (old new : List ℕ) (so_far : old ≡ filter (λ h. list_any (joins me h) net.edges) (range_with_len 0 k)) where
  pub near_here : answered ≡ true → new ≡ old ++ g ∷ [] → new ≡ filter (λ h. list_any (joins me h) net.edges) (range_with_len 0 (k + 1))
  near_here here grown =
      let p = λ (h : ℕ). list_any (joins me h) net.edges in
      let t : list_any (joins me k) net.edges ≡ true = ap p (sym same) ∙ joined_holds net me g (says.0 here) in
      grown ∙ ap (λ z. z ++ g ∷ []) so_far ∙ ap (λ z. filter (λ h. list_any (joins me h) net.edges) (range_with_len 0 k) ++ z ∷ []) same
      ∙ ap (λ z. filter (λ h. list_any (joins me h) net.edges) (range_with_len 0 k) ++ z) (sym (cond-true (p k) (k ∷ []) [] t))
      ∙ sym (filter_more p k)

  pub near_not : answered ≡ false → new ≡ old → new ≡ filter (λ h. list_any (joins me h) net.edges) (range_with_len 0 (k + 1))
  near_not here kept =
      let p = λ (h : ℕ). list_any (joins me h) net.edges in
      let f : list_any (joins me k) net.edges ≡ false = elim (cases_Bool (list_any (joins me g) net.edges)) [
        | inl t ↦ let s : answered ≡ true = says.1 (any_joins me g net.edges t) in absurd (cc)
        | inr f ↦ ap p (sym same) ∙ f
      ] in
      kept ∙ so_far ∙ sym (append-nil (filter p (range_with_len 0 k)))
      ∙ ap (λ z. filter (λ h. list_any (joins me h) net.edges) (range_with_len 0 k) ++ z) (sym (cond-false (p k) (k ∷ []) [] f))
      ∙ sym (filter_more p k)

pub near_all : (net : Network) (me k n : ℕ) (found : List ℕ) → n ≡ net.generals → k ≤ n → n ≤ k → found ≡ filter (λ h. list_any (joins me h) net.edges) (range_with_len 0 k) → found ≡ neighbours_of net me
near_all net me k n found count high low so_far = let e : k ≡ net.generals = omega arith in so_far ∙ ap (λ z. filter (λ h. list_any (joins me h) net.edges) (range_with_len 0 z)) e

rounds_joined : (near : List ℕ) (c a l : ℕ) → a + c ≡ l → acts_of_rounds near a (c + 1) ≡ acts_of_rounds near a c ++ acts_of_round near l
rounds_joined near zero a l e = let same : a ≡ l = omega arith in append-nil (acts_of_round near a) ∙ ap (acts_of_round near) same
rounds_joined near (suc c) a l e =
    let more : suc c + 1 ≡ suc (c + 1) = omega arith in
    ap (acts_of_rounds near a) more ∙ ap (λ z. acts_of_round near a ++ z) (rounds_joined near c (a + 1) l (omega arith)) ∙ sym (append_assoc (acts_of_round near a) (acts_of_rounds near (a + 1) c) (acts_of_round near l))

pub rounds_more : (near : List ℕ) (l : ℕ) (old new : List Act) → 1 ≤ l → old ≡ acts_of_rounds near 1 (l - 1) → new ≡ old ++ acts_of_round near l → new ≡ acts_of_rounds near 1 ((l + 1) - 1)
rounds_more near l old new first so_far grown =
    let e : (l - 1) + 1 ≡ (l + 1) - 1 = omega arith in
    grown ∙ ap (λ z. z ++ acts_of_round near l) so_far ∙ sym (rounds_joined near (l - 1) 1 l (omega arith)) ∙ ap (acts_of_rounds near 1) e

pub all_rounds : (net : Network) (me l n : ℕ) (near : List ℕ) (acts : List Act) → near ≡ neighbours_of net me → n ≡ rounds net + 1 → l ≤ n → n ≤ l → acts ≡ acts_of_rounds near 1 (l - 1) → acts ≡ acts_of net me
unfolding acts_of
all_rounds net me l n near acts near_is count high low so_far =
    let e : l - 1 ≡ rounds net = omega arith in
    so_far ∙ ap (λ z. acts_of_rounds z 1 (l - 1)) near_is ∙ ap (acts_of_rounds (neighbours_of net me) 1) e

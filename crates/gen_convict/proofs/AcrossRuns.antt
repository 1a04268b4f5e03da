-- The first texts that contradict each other across runs are of two runs, the first of the earlier.
use Rattle.std.proofs.Common.{◌≡◌, ◌≢◌, ℕ, ◌⊎◌, inl, inr, List, [], ◌∷◌, ◌++◌, map, Contains, refl, sym, ap, subst, ◌∙◌}
use Rattle.std.proofs.lemmas.List.Elements.{Contains-append_cases, Contains-append_right}
use Rattle.gen_types.proofs.Lists.{not_nil, split, Contains-middle, Contains_there, Contains_mapped, Contains_flat_mapped}
use Rattle.gen_local.specs.declared.texts.SignedText.{SignedText}
use Rattle.gen_convict.specs.declared.run_texts.RunText.{RunText}
use Rattle.gen_convict.specs.Across.{ShownRun, of_run, texts_across}
use Rattle.gen_convict.specs.AcrossLaws.{AreOfTwoRuns, FirstOfTwoRuns}
use Rattle.gen_convict.specs.Exhibits.{texts_of}

-- a member of two lists, one behind the other, stands in the one or in the other
record InFirst {X : Type 0} (front : List X) (x : X) (rest more back : List X) : Type 0 where
  after : List X
  here : front ≡ more ++ x ∷ after
  there : rest ≡ after ++ back

record InSecond {X : Type 0} (front : List X) (x : X) (rest more back : List X) : Type 0 where
  before : List X
  here : more ≡ front ++ before
  there : back ≡ before ++ x ∷ rest

in_either : {X : Type 0} (front back more : List X) (x : X) (rest : List X) → front ++ back ≡ more ++ x ∷ rest → InFirst front x rest more back ⊎ InSecond front x rest more back
in_either [] back more x rest e = inr (record { before = more; here = refl; there = e })
in_either (y ∷ ys) back [] x rest e =
    let same : y ≡ x = cc in
    let others : ys ++ back ≡ rest = cc in
    inl (record { after = ys; here = ap (λ z. z ∷ ys) same; there = sym others })
in_either (y ∷ ys) back (z ∷ zs) x rest e =
    let same : y ≡ z = cc in
    let others : ys ++ back ≡ zs ++ x ∷ rest = cc in
    elim (in_either ys back zs x rest others) [
      | inl f ↦ inl (record { after = f.after; here = ap (λ w. w ∷ ys) same ∙ ap (λ ws. z ∷ ws) f.here; there = f.there })
      | inr s ↦ inr (record { before = s.before; here = ap (λ w. w ∷ zs) (sym same) ∙ ap (λ ws. y ∷ ws) s.here; there = s.there })
    ]

module _ (general : ℕ) where
  its_texts : ShownRun → List RunText
  its_texts r = map (of_run r.header) (texts_of r.header r.exhibits general)

  of_this : (r : ShownRun) (x : RunText) → Contains (its_texts r) x → x.header ≡ r.header
  unfolding its_texts
  of_this r x c =
      let t = Contains_mapped (of_run r.header) (texts_of r.header r.exhibits general) x c in
      ap (λ (z : RunText). z.header) (sym t.2)

  later : (r : ShownRun) (rs : List ShownRun) (x y : RunText) → x.header ≡ r.header → Contains (texts_across rs general) y → AreOfTwoRuns (r ∷ rs) x y
  unfolding texts_across
  later r rs x y is c =
      let f = Contains_flat_mapped (λ (s : ShownRun). map (of_run s.header) (texts_of s.header s.exhibits general)) rs y c in
      let k = split rs f.0 f.1 in
      let t = Contains_mapped (of_run f.0.header) (texts_of f.0.header f.0.exhibits general) y f.2 in
      record { front = []; one = r; between = k.0; other = f.0; back = k.1; split = ap (λ zs. r ∷ zs) k.2; first = is; second = ap (λ (z : RunText). z.header) (sym t.2) }

  two_runs : (runs : List ShownRun) (x y : RunText) (more rest : List RunText) → texts_across runs general ≡ more ++ x ∷ rest → Contains rest y → (x.header ≢ y.header) → AreOfTwoRuns runs x y
  unfolding texts_across its_texts
  two_runs [] x y more rest e c apart = absurd (not_nil more x rest (sym e))
  two_runs (r ∷ rs) x y more rest e c apart = elim (in_either (its_texts r) (texts_across rs general) more x rest e) [
    | inl f ↦
        let is = of_this r x (subst (λ zs. Contains zs x) (sym f.here) (Contains-middle more x f.after)) in
        elim (Contains-append_cases f.after (texts_across rs general) y (subst (λ zs. Contains zs y) f.there c)) [
          | inl here ↦ absurd (apart (is ∙ sym (of_this r y (subst (λ zs. Contains zs y) (sym f.here) (Contains-append_right more (x ∷ f.after) y (Contains_there x y f.after here))))))
          | inr there ↦ later r rs x y is there
        ]
    | inr s ↦
        let k = two_runs rs x y s.before rest s.there c apart in
        record { front = r ∷ k.front; one = k.one; between = k.between; other = k.other; back = k.back; split = ap (λ zs. r ∷ zs) k.split; first = k.first; second = k.second }
  ]

pub first_of_two : FirstOfTwoRuns
first_of_two runs general x y p = two_runs general runs x y p.before (p.between ++ y ∷ p.after) p.split (Contains-middle p.between y p.after) p.holds.runs.unequal

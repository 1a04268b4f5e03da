-- Who is convicted, by a look through the convictions.
use Rattle.std.proofs.Common.{◌≡◌, ℕ, Bool, Bor, Option, true, false, List, [], ◌∷◌, Some, None, find, option_map, map, ◌==◌, refl, inl, inr, sym, ap, subst, ◌∙◌}
use Rattle.std.specs.Prelude.{Contains}
use Rattle.std.proofs.lemmas.Bool.{cases_Bool, eq-eqb, eqb-true}
use Rattle.gen_types.proofs.Lists.{Contains_here, Contains_there, Contains_cases, Contains_nil}
use Rattle.gen_audit.specs.Bundle.{Bundle}
use Rattle.gen_convict.specs.declared.evidence.Evidence.{Evidence}
use Rattle.gen_convict.specs.Convictions.{AreConvictions}
use Rattle.gen_convict.specs.Evidence.{Accusation, told_of}
use Rattle.gen_convict.specs.EvidenceSpelling.{evidence_spelling}
use Rattle.gen_judging.specs.Accusing.{Accuses, IsClaimOn, TellsOf}

-- what is found is one of the general's
pub convicted : (g : ℕ) (es : List Evidence) (e : Evidence) → Some e ≡ find (λ x. x.accused == g) es → Contains (map told_of es) (told_of e) × ((told_of e).accused ≡ g)
convicted g [] e is = absurd cc
convicted g (x ∷ es) e is = elim (cases_Bool (x.accused == g)) [
  | inl yes_it ↦
      let same : e ≡ x = cc in
      (subst (λ (y : Evidence). Contains (map told_of (x ∷ es)) (told_of y)) (sym same) (Contains_here (told_of x) (map told_of es)), rw same (eqb-true x.accused g yes_it))
  | inr no_it ↦
      let rest : Some e ≡ find (λ y. y.accused == g) es = cc in
      let more = convicted g es e rest in
      (Contains_there (told_of x) (told_of e) (map told_of es) more.0, more.1)
]

-- where there is no answer none is found
pub unfound : (r : Option (Bor Evidence)) (g : ℕ) (es : List Evidence) → option_map (λ (e : Bor Evidence). e.now) r ≡ find (λ x. x.accused == g) es → ((e : Bor Evidence) → r ≡ Some e → ⊥) → None ≡ find (λ x. x.accused == g) es
unfound None g es is never = is
unfound (Some e) g es is never = absurd (never e refl)

-- where none is found nobody is
pub unconvicted : (g : ℕ) (es : List Evidence) → None ≡ find (λ x. x.accused == g) es → (a : Accusation) → Contains (map told_of es) a → a.accused ≡ g → ⊥
unconvicted g [] is a inside whose = Contains_nil a inside
unconvicted g (x ∷ es) is a inside whose = elim (cases_Bool (x.accused == g)) [
  | inl yes_it ↦ absurd cc
  | inr no_it ↦
      let rest : None ≡ find (λ y. y.accused == g) es = cc in
      elim (Contains_cases (told_of x) a (map told_of es) inside) [
        | inl here ↦
            let same : x.accused ≡ g = ap (λ (y : Accusation). y.accused) here ∙ whose in
            let yes_it : (x.accused == g) ≡ true = eq-eqb x.accused g same in
            absurd cc
        | inr there ↦ unconvicted g es rest a there whose
      ]
]

-- the text of one of a bundle's convictions is that of the first claim
pub accuses : (bundle : Bundle) (convictions : List Accusation) (g : ℕ) (text : List ℕ) (negative : Bool) → AreConvictions bundle.header bundle.exhibits convictions → TellsOf bundle.header convictions g text negative → Accuses bundle g text negative
accuses bundle convictions g text false are (x, inside, whose, is) =
    let first = are.first x inside in
    (x.claim, subst (λ (n : ℕ). IsClaimOn bundle n x.claim) whose first, is ∙ ap (λ (n : ℕ). evidence_spelling bundle.header (record { accused = n; claim = x.claim })) whose)
accuses bundle convictions g text true are (none, is) =
    (λ claim on. none (record { accused = g; claim = claim }) (are.each g claim on.0 on.1) refl, is)

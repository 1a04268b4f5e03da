use Rattle.std.proofs.Common.{◌≡◌, [], ◌∷◌, ◌+◌, ◌∙◌, Bool, None, Some, List, Bor, drop, map, refl, rules, sym, ap, inl, inr}
use Rattle.std.specs.List.{find, list_any}
use Rattle.std.specs.Option.{is_some}
use Rattle.std.proofs.lemmas.List.{drop_more}
use Rattle.gen_types.proofs.Lists.{bool_cases}
use Rattle.gen_local.specs.declared.texts.SignedText.{SignedText}
use Rattle.gen_convict.specs.Contradictions.{TwoTexts}
use Rattle.gen_convict.specs.Finding.{is_unlike}
use Rattle.gen_convict.specs.FindingClaims.{texts_claim}
use Rattle.gen_convict.proofs.text_claims.texts_claim.Goals as goal

any_is_found : {X : Type 0} (p : X → Bool) (xs : List X) → list_any p xs ≡ is_some (find p xs)
any_is_found p [] = refl
any_is_found p (x ∷ xs) = elim (bool_cases (p x)) [
  | inl t ↦ rw t refl
  | inr f ↦ rw f (any_is_found p xs)
]

-- the claim by a first text that has an unlike one, and by one that has none
with_one : (texts firsts : List SignedText) (x y : SignedText) → find (λ t. is_unlike x.text t.text) texts ≡ Some y → texts_claim (x ∷ firsts) texts ≡ Some (TwoTexts x y)
with_one texts firsts x y e =
    let some = any_is_found (λ t. is_unlike x.text t.text) texts ∙ ap is_some e in
    rw (some, e) refl

with_none : (texts firsts : List SignedText) (x : SignedText) → find (λ t. is_unlike x.text t.text) texts ≡ None → texts_claim (x ∷ firsts) texts ≡ texts_claim firsts texts
with_none texts firsts x e =
    let none = any_is_found (λ t. is_unlike x.text t.text) texts ∙ ap is_some e in
    rw none refl

pub loop-first-preserved : goal.loop-first-preserved
loop-first-preserved c =
    let texts = map (λ (t : Bor SignedText). t.now) c.args.texts.now in
    let firsts = c.args.firsts.now in
    let i = c.loop-first.first-index in
    let x = c.first-item.result in
    let split : drop i firsts ≡ x ∷ drop (i + 1) firsts = drop_more firsts i x c.loop-first-test.true ∙ ap (λ (y : Bor SignedText). y ∷ drop (i + 1) firsts) (sym c.first-item.is) in
    let none : find (λ t. is_unlike x.now.text t.text) texts ≡ None = search rules in
    sym (with_none texts (map (λ (t : Bor SignedText). t.now) (drop (i + 1) firsts)) x.now none)
    ∙ ap (λ (ys : List (Bor SignedText)). texts_claim (map (λ (t : Bor SignedText). t.now) ys) texts) (sym split)
    ∙ c.loop-first.invariant

pub returns-in-Some : goal.returns-in-Some
returns-in-Some c =
    let texts = map (λ (t : Bor SignedText). t.now) c.args.texts.now in
    let firsts = c.args.firsts.now in
    let i = c.loop-first.first-index in
    let x = c.first-item.result in
    let split : drop i firsts ≡ x ∷ drop (i + 1) firsts = drop_more firsts i x c.loop-first-test.true ∙ ap (λ (y : Bor SignedText). y ∷ drop (i + 1) firsts) (sym c.first-item.is) in
    let found : find (λ t. is_unlike x.now.text t.text) texts ≡ Some c.in-Some.second.now = search rules in
    let claim : Some (TwoTexts x.now c.in-Some.second.now) ≡ texts_claim (map (λ (t : Bor SignedText). t.now) firsts) texts =
    sym (with_one texts (map (λ (t : Bor SignedText). t.now) (drop (i + 1) firsts)) x.now c.in-Some.second.now found)
    ∙ ap (λ (ys : List (Bor SignedText)). texts_claim (map (λ (t : Bor SignedText). t.now) ys) texts) (sym split)
    ∙ c.loop-first.invariant in
    search (rules, claim)

use Rattle.std.proofs.Common.{◌≡◌, ◌+◌, ◌++◌, ◌∙◌, ℕ, List, [], ap, length, map, string_bytes, sym}
use Rattle.std.proofs.lemmas.List.{length-map}
use Rattle.gen_convict.specs.Evidence.{told_of}
use Rattle.gen_draw.specs.Several.{across_height, across_part, several_front, several_picture, several_title}
use Rattle.gen_draw.specs.Shapes.{opening_of}
use Rattle.gen_draw.proofs.Chains.{both}
use Rattle.gen_draw.proofs.several.draw_campaign.Goals as goal

-- the beginning of a text, with the size that was computed
begun : (start one : List ℕ) (w d l width down lines : ℕ) → start ≡ [] → w ≡ width → d ≡ down → l ≡ lines → one ≡ start ++ opening_of w (d + l)
    → one ≡ opening_of width (down + lines)
begun start one w d l width down lines none wide low more is = is ∙ (λ i. none i ++ opening_of (wide i) (low i + more i))

-- the parts of the page
joined : (o s h t r a one two three four five six new : List ℕ) → one ≡ o → two ≡ one ++ s → three ≡ two ++ h → four ≡ three ++ t
    → five ≡ four ++ r → six ≡ five ++ a → new ≡ six → new ≡ (o ++ (s ++ (h ++ t))) ++ (r ++ a)
joined o s h t r a one two three four five six new first second third fourth fifth sixth last =
    let front : four ≡ o ++ (s ++ (h ++ t)) = both one s (h ++ t) two four second (both two h t three four third fourth) ∙ ap (λ (xs : List ℕ). xs ++ (s ++ (h ++ t))) first in
    last ∙ (both four r a five six fifth sixth ∙ ap (λ (xs : List ℕ). xs ++ (r ++ a)) front)

pub returns : goal.returns
unfolding several_picture several_front several_title
returns c =
    let lines : c.across_height.result ≡ across_height (length (map told_of c.args.across.now)) = c.across_height.ensures.value ∙ ap across_height (sym (length-map c.args.across.now told_of)) in
    joined _ _ _ (several_title (length c.args.bundles.now)) _ _ _ _ _ _ _ _ _
    (begun _ _ _ _ _ _ _ _ c.new-out.ensures.bytes c.extent_of-width.ensures.width c.extent_of-width.ensures.bottom lines c.in_ok-push_opening.ensures)
    c.in_ok-push_style.ensures c.in_ok-push_heads.ensures c.in_ok-write.ensures.bytes c.in_ok-push_runs.ensures
    (c.in_ok-push_across.ensures ∙ ap (λ (d : ℕ). string_bytes c.push_runs.new.out ++ across_part d c.args.bundles.now (map told_of c.args.across.now)) c.extent_of-width.ensures.bottom)
    (λ i. (c.into_bytes.ensures.value i).items)

-- How long the parts of a bundle are.
use Rattle.std.proofs.Common.{◌≡◌, ℕ, ◌+◌, List, [], ◌∷◌, ◌++◌, length, refl, sym, ap, ◌∙◌, append_assoc, arith}
use Rattle.std.specs.Prelude.{sum_by}
use Rattle.std.specs.Int.{w32, to_be_bytes}
use Rattle.std.specs.List.{flat_map}
use Rattle.std.proofs.lemmas.List.{length-append}
use Rattle.std.proofs.lemmas.List.Concat.{flat_map-cons}
use Rattle.std.proofs.lemmas.List.Sums.{sum_by-cons}
use Rattle.gen_log.specs.Writing.{LogBytes}
use Rattle.gen_audit.specs.Bundle.{Bundle}
use Rattle.gen_audit.specs.BundleSpelling.{bundle_spelling, exhibit_spelling}
use Rattle.gen_file.specs.Parts.{bundle_front, bundle_front_length, bundle_length, exhibit_length}

length_exhibit : (x : LogBytes) → length (exhibit_spelling x) ≡ exhibit_length x
length_exhibit x =
    let four : length (to_be_bytes w32 (length x.bytes)) ≡ 4 = refl in
    omega (arith, four, length-append (to_be_bytes w32 (length x.bytes)) x.bytes)

length_exhibits : (xs : List LogBytes) → length (flat_map exhibit_spelling xs) ≡ sum_by exhibit_length xs
length_exhibits [] = refl
length_exhibits (x ∷ xs) =
    ap length (flat_map-cons exhibit_spelling x xs) ∙ length-append (exhibit_spelling x) (flat_map exhibit_spelling xs)
    ∙ (λ i. length_exhibit x i + length_exhibits xs i) ∙ sym (sum_by-cons exhibit_length x xs)

front_is : (b : Bundle) → bundle_spelling b ≡ bundle_front b ++ flat_map exhibit_spelling b.exhibits
front_is b = simp append_assoc refl

-- what stands before the exhibits has the length of the front
pub front_has : (b : Bundle) (front : List ℕ) → front ++ flat_map exhibit_spelling b.exhibits ≡ bundle_spelling b → length front ≡ bundle_front_length b
front_has b front is =
    unfold bundle_front_length in
    let whole : length (front ++ flat_map exhibit_spelling b.exhibits) ≡ length (bundle_front b ++ flat_map exhibit_spelling b.exhibits) = ap length (is ∙ front_is b) in
    omega (arith, whole, length-append front (flat_map exhibit_spelling b.exhibits), length-append (bundle_front b) (flat_map exhibit_spelling b.exhibits))

pub length_bundle : (b : Bundle) → length (bundle_spelling b) ≡ bundle_length b
length_bundle b =
    unfold bundle_front_length in
    ap length (front_is b) ∙ length-append (bundle_front b) (flat_map exhibit_spelling b.exhibits) ∙ (λ i. length (bundle_front b) + length_exhibits b.exhibits i)

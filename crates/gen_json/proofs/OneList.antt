-- A text is the lines of one list of values.
use Rattle.std.proofs.Common.{◌≡◌, ℕ, ◌&&◌, Bool, true, false, not, eqb, List, [], ◌∷◌, ◌++◌, map, codes, refl, sym, ap, ◌∙◌, append_assoc}
use Rattle.std.specs.List.{All, flat_map, slice_split}
use Rattle.std.proofs.lemmas.List.{append_cancel_right}
use Rattle.std.proofs.lemmas.List.Elements.{All-head, All-tail}
use Rattle.serde_json.specs.Data.{Data}
use Rattle.serde_json.specs.Written.{compact_text, has_float}
use Rattle.gen_json.specs.Line.{json_line}
use Rattle.gen_json.specs.LineLists.{OneListOfTexts, OneListOfValues, HasWhole}
use Rattle.gen_json.proofs.LineFeeds.{IsLineless, compact_free}
use Rattle.gen_json.proofs.ShownValues.{one_value}

cut_line : (f ys : List ℕ) → IsLineless f → slice_split (λ b. eqb b 10) (f ++ 10 ∷ ys) ≡ f ∷ slice_split (λ b. eqb b 10) ys
cut_line [] ys e = refl
cut_line (x ∷ f) ys e =
    let a = parts (eqb x 10) _ e in
    rw (a.0, cut_line f ys a.1) refl
  where
    parts : (a b : Bool) → (not a && b) ≡ true → (a ≡ false) × (b ≡ true)
    parts true b e = absurd cc
    parts false b e = (refl, e)

cut_lines : (ds : List Data) → All (λ d. has_float d ≡ false) ds → slice_split (λ b. eqb b 10) (flat_map json_line ds) ≡ map compact_text ds ++ [] ∷ []
cut_lines [] h = refl
cut_lines (d ∷ ds) h =
    let first = compact_free d (All-head (λ d. has_float d ≡ false) d ds h) in
    let rest = cut_lines ds (All-tail (λ d. has_float d ≡ false) d ds h) in
    ap (slice_split (λ b. eqb b 10)) (append_assoc (compact_text d) (codes "\n") (flat_map json_line ds))
    ∙ cut_line (compact_text d) (flat_map json_line ds) first
    ∙ ap (λ (r : List (List ℕ)). compact_text d ∷ r) rest

pub one_list_of_texts : OneListOfTexts
one_list_of_texts text ds es x y =
    append_cancel_right (map compact_text ds) (map compact_text es) ([] ∷ [])
    (sym (cut_lines ds x.plain) ∙ ap (slice_split (λ b. eqb b 10)) (sym x.lines ∙ y.lines) ∙ cut_lines es y.plain)

heads : (d e : Data) (ds es : List (List ℕ)) → HasWhole d → HasWhole e → (compact_text d ∷ ds) ≡ (compact_text e ∷ es) → d ≡ e
heads d e ds es x y same = one_value d e x y (ap head_of same)
  where
    head_of : List (List ℕ) → List ℕ
    head_of [] = []
    head_of (t ∷ ts) = t

values : (ds es : List Data) → All HasWhole ds → All HasWhole es → map compact_text ds ≡ map compact_text es → ds ≡ es
values [] [] x y same = refl
values [] (e ∷ es) x y same = absurd cc
values (d ∷ ds) [] x y same = absurd cc
values (d ∷ ds) (e ∷ es) x y same =
    let first = heads d e (map compact_text ds) (map compact_text es) (All-head HasWhole d ds x) (All-head HasWhole e es y) same in
    let rest = values ds es (All-tail HasWhole d ds x) (All-tail HasWhole e es y) (ap tail_of same) in
    rw (first, rest) refl
  where
    tail_of : List (List ℕ) → List (List ℕ)
    tail_of [] = []
    tail_of (t ∷ ts) = ts

pub one_list_of_values : OneListOfValues
one_list_of_values text ds es x y back again =
    values ds es back again (one_list_of_texts text ds es x y)

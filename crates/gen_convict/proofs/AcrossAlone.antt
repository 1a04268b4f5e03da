-- A text beside one that meets nobody has no rival.
use Rattle.std.proofs.Common.{◌≡◌, ℕ, inl, inr, Bool, true, false, ◌&&◌, ◌||◌, not, eqb, eqb-true, eq-eqb, Option, Some, None, List, [], ◌∷◌, ◌-◌, ◌≤◌, length, get_or, take, drop, Contains, refl, sym, ap, subst, ◌∙◌, arith}
use Rattle.std.specs.Bool.{nat_eq}
use Rattle.std.specs.Cmp.Lexicographic.{pointwise}
use Rattle.std.specs.List.{find, list_any}
use Rattle.std.proofs.lemmas.List.{take_all}
use Rattle.gen_types.proofs.Lists.{bool_cases, Contains_there}
use Rattle.gen_net.specs.Header.{RunHeader, run_id_of}
use Rattle.gen_net.specs.SameHeaders.{same_header}
use Rattle.gen_net.specs.SameHeaderLaws.{header_decides}
use Rattle.gen_chain.proofs.TestedChains.{both, and_so}
use Rattle.gen_local.specs.declared.texts.Text.{Text}
use Rattle.gen_local.specs.declared.texts.Text.TheVariants.{OfStatement, OfHead}
use Rattle.gen_convict.specs.declared.run_texts.RunText.{RunText}
use Rattle.gen_convict.specs.AcrossFinding.{is_rival, meets, is_beside}
use Rattle.gen_convict.specs.Finding.{is_like, is_unlike}
use Rattle.gen_convict.specs.Loops.Alone.{MeetNone}
use Rattle.gen_convict.specs.SharedLeaves.{share_leaves}
use Rattle.gen_convict.proofs.FindFirst.{find_in}
use Rattle.gen_convict.proofs.Signs.{any_found, any_told}

-- ---- tests

opposite : (b : Bool) → b ≡ true → b ≡ false → ⊥
opposite true t f = absurd cc
opposite false t f = absurd cc

rival_meets : (x y : RunText) → is_rival x y ≡ true → meets x y ≡ true
unfolding is_rival meets
rival_meets x y e =
    let differ = not (pointwise nat_eq (run_id_of x.header) (run_id_of y.header)) || is_unlike x.text.text y.text.text in
    let p = both (is_like x.text.text y.text.text) (share_leaves x.header y.header && differ) e in
    let q = both (share_leaves x.header y.header) differ p.1 in
    and_so (is_like x.text.text y.text.text) (share_leaves x.header y.header) p.0 q.0

like_through : (x y z : Text) → is_like x y ≡ true → is_like y z ≡ true → is_like x z ≡ true
like_through (OfStatement s) (OfStatement t) (OfStatement u) e f = eq-eqb s.order u.order (eqb-true s.order t.order e ∙ eqb-true t.order u.order f)
like_through (OfStatement s) (OfStatement t) (OfHead u) e f = absurd cc
like_through (OfStatement s) (OfHead t) z e f = absurd cc
like_through (OfHead s) (OfStatement t) z e f = absurd cc
like_through (OfHead s) (OfHead t) (OfStatement u) e f = absurd cc
like_through (OfHead s) (OfHead t) (OfHead u) e f = refl

beside_meets : (x y z : RunText) → is_beside x y ≡ true → meets y z ≡ true → meets x z ≡ true
unfolding is_beside meets
beside_meets x y z e f =
    let p = both (is_like x.text.text y.text.text) (same_header x.header y.header) e in
    let q = both (is_like y.text.text z.text.text) (share_leaves y.header z.header) f in
    let same = (header_decides x.header y.header).0 p.1 in
    and_so (is_like x.text.text z.text.text) (share_leaves x.header z.header) (like_through x.text.text y.text.text z.text.text p.0 q.0)
    (subst (λ (h : RunHeader). share_leaves h z.header ≡ true) (sym same) q.1)

-- ---- texts that meet nobody

-- who meets nobody has no rival
pub none_met : (x : RunText) (others : List RunText) → list_any (meets x) others ≡ false → find (is_rival x) others ≡ None
none_met x others none = by (find (is_rival x) others) refl
  where
    by : (o : Option RunText) → find (is_rival x) others ≡ o → o ≡ None
    by None e = refl
    by (Some y) e =
        let f = find_in (is_rival x) others y e in
        absurd (opposite (list_any (meets x) others) (any_told (meets x) others y f.0 (rival_meets x y f.1)) none)

-- nor has who is beside one that meets nobody
beside_none : (x y : RunText) (others : List RunText) → is_beside x y ≡ true → list_any (meets x) others ≡ false → list_any (meets y) others ≡ false
beside_none x y others e none = elim (bool_cases (list_any (meets y) others)) [
  | inr f ↦ f
  | inl t ↦
      let z = any_found (meets y) others t in
      absurd (opposite (list_any (meets x) others) (any_told (meets x) others z.0 z.1 (beside_meets x y z.0 e z.2)) none)
]

fewer : (x y : RunText) (others : List RunText) → list_any (meets x) (y ∷ others) ≡ false → list_any (meets x) others ≡ false
fewer x y others none = elim (bool_cases (list_any (meets x) others)) [
  | inr f ↦ f
  | inl t ↦
      let z = any_found (meets x) others t in
      absurd (opposite (list_any (meets x) (y ∷ others)) (any_told (meets x) (y ∷ others) z.0 (Contains_there y z.0 others z.1) z.2) none)
]

pub covered : (texts : List RunText) (y : RunText) (others : List RunText) → MeetNone texts (y ∷ others) → list_any (λ x. is_beside x y) texts ≡ true → find (is_rival y) others ≡ None
covered texts y others none e =
    let x = any_found (λ x. is_beside x y) texts e in
    none_met y others (beside_none x.0 y others x.2 (fewer x.0 y others (none x.0 x.1)))

-- a list that isn't empty is its first and the others
pub first_and_others : {X : Type 0} (xs : List X) (d x : X) → 1 ≤ length xs → x ≡ get_or xs 0 d → xs ≡ x ∷ take (length xs - 1) (drop 1 xs)
first_and_others [] d x some e = absurd (omega (arith, some))
first_and_others (y ∷ ys) d x some e =
    let long : length ys ≤ length (y ∷ ys) - 1 = omega arith in
    ap (λ z. z ∷ ys) (sym e) ∙ ap (λ zs. x ∷ zs) (sym (take_all (length (y ∷ ys) - 1) ys long))

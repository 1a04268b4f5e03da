-- What the tests of rivals tell.
use Rattle.std.proofs.Common.{◌≡◌, ◌≢◌, ℕ, ◌⊎◌, inl, inr, Bool, true, false, not, ◌&&◌, ◌||◌, eqb, eqb-true, eq-eqb, List, refl, sym, ap, subst, ◌∙◌, arith}
use Rattle.std.specs.Bool.{nat_eq}
use Rattle.std.specs.Cmp.Lexicographic.{pointwise, same_text}
use Rattle.gen_types.proofs.Lists.{bool_cases}
use Rattle.gen_net.specs.declared.version.Version.{Version}
use Rattle.gen_net.specs.declared.version.Version.TheVariants.{Two}
use Rattle.gen_net.specs.Header.{RunHeader, run_id_of, slot_of}
use Rattle.gen_net.specs.Version.{slot_in}
use Rattle.gen_chain.proofs.TestedChains.{both, and_so, same_list}
use Rattle.gen_local.specs.declared.texts.Text.{Text}
use Rattle.gen_local.specs.declared.texts.Text.TheVariants.{OfStatement, OfHead}
use Rattle.gen_convict.specs.declared.run_texts.RunText.{RunText}
use Rattle.gen_convict.specs.Accused.{AreUnlike}
use Rattle.gen_convict.specs.Across.{ShareLeaves, AreOfOneKind, AreRivals, leaf_of}
use Rattle.gen_convict.specs.AcrossFinding.{is_rival}
use Rattle.gen_convict.specs.AcrossLaws.{TestsRivals, OneLeaf, SlotsApart}
use Rattle.gen_convict.specs.Finding.{is_like, is_unlike}
use Rattle.gen_convict.specs.SharedLeaves.{share_leaves}
use Rattle.gen_convict.proofs.FindFirst.{Tests}
use Rattle.gen_convict.proofs.FoundTexts.{unlike_gives, unlike_told}
use Rattle.gen_convict.proofs.SharingTests.{not_true, so_not, tests_sharing}

kind_gives : (x y : Text) → is_like x y ≡ true → AreOfOneKind x y
kind_gives (OfStatement s) (OfStatement t) e = eqb-true s.order t.order e
kind_gives (OfStatement s) (OfHead t) e = absurd cc
kind_gives (OfHead s) (OfStatement t) e = absurd cc
kind_gives (OfHead s) (OfHead t) e = tt

kind_told : (x y : Text) → AreOfOneKind x y → is_like x y ≡ true
kind_told (OfStatement s) (OfStatement t) e = eq-eqb s.order t.order e
kind_told (OfStatement s) (OfHead t) e = absurd e
kind_told (OfHead s) (OfStatement t) e = absurd e
kind_told (OfHead s) (OfHead t) e = refl

-- of one kind, unlike texts are those that are not the same
apart_so : (x y : Text) → AreUnlike x y → x ≢ y
apart_so (OfStatement s) (OfStatement t) d = λ e. d.1 cc
apart_so (OfStatement s) (OfHead t) d = absurd d
apart_so (OfHead s) (OfStatement t) d = absurd d
apart_so (OfHead s) (OfHead t) d = λ e. d cc

unlike_so : (x y : Text) → AreOfOneKind x y → x ≢ y → AreUnlike x y
unlike_so (OfStatement s) (OfStatement t) k ne = (k, λ e. ne (ap OfStatement e))
unlike_so (OfStatement s) (OfHead t) k ne = absurd k
unlike_so (OfHead s) (OfStatement t) k ne = absurd k
unlike_so (OfHead s) (OfHead t) k ne = λ e. ne (ap OfHead e)

either : (a b : Bool) → (a || b) ≡ true → (a ≡ true) ⊎ (b ≡ true)
either true b e = inl refl
either false b e = inr e

or_left : (a b : Bool) → a ≡ true → (a || b) ≡ true
or_left true b e = refl
or_left false b e = absurd cc

or_right : (a b : Bool) → b ≡ true → (a || b) ≡ true
or_right true b e = refl
or_right false b e = e

abbrev other_ids : RunText → RunText → Bool
other_ids x y = not (pointwise nat_eq (run_id_of x.header) (run_id_of y.header))

ids_give : (a b : List ℕ) → not (pointwise nat_eq a b) ≡ true → a ≢ b
ids_give a b e = λ same. not_true (pointwise nat_eq a b) e (subst (λ (c : List ℕ). pointwise nat_eq a c ≡ true) same (same_list a))

ids_told : (a b : List ℕ) → a ≢ b → not (pointwise nat_eq a b) ≡ true
ids_told a b ne = so_not (pointwise nat_eq a b) (λ e. ne (same_text a b (sym e)))

rival_gives : (x y : RunText) → is_rival x y ≡ true → AreRivals x y
unfolding is_rival
rival_gives x y e =
    let p = both (is_like x.text.text y.text.text) (share_leaves x.header y.header && (other_ids x y || is_unlike x.text.text y.text.text)) e in
    let q = both (share_leaves x.header y.header) (other_ids x y || is_unlike x.text.text y.text.text) p.1 in
    record {
      runs = (tests_sharing x.header y.header).0 q.0;
      kind = kind_gives x.text.text y.text.text p.0;
      different = elim (either (other_ids x y) (is_unlike x.text.text y.text.text) q.1) [
        | inl ids ↦ inl (ids_give (run_id_of x.header) (run_id_of y.header) ids)
        | inr unlike ↦ inr (apart_so x.text.text y.text.text (unlike_gives x.text.text y.text.text unlike))
      ];
    }

rival_told : (x y : RunText) → AreRivals x y → is_rival x y ≡ true
unfolding is_rival
rival_told x y r =
    let differ : (other_ids x y || is_unlike x.text.text y.text.text) ≡ true
    = elim r.different [
      | inl ids ↦ or_left (other_ids x y) (is_unlike x.text.text y.text.text) (ids_told (run_id_of x.header) (run_id_of y.header) ids)
      | inr ne ↦ or_right (other_ids x y) (is_unlike x.text.text y.text.text) (unlike_told x.text.text y.text.text (unlike_so x.text.text y.text.text r.kind ne))
    ] in
    and_so (is_like x.text.text y.text.text) (share_leaves x.header y.header && (other_ids x y || is_unlike x.text.text y.text.text)) (kind_told x.text.text y.text.text r.kind)
    (and_so (share_leaves x.header y.header) (other_ids x y || is_unlike x.text.text y.text.text) ((tests_sharing x.header y.header).1 r.runs) differ)

pub tests_rivals : TestsRivals
tests_rivals x y = (rival_gives x y, rival_told x y)

pub rival_tests : (x : RunText) → Tests (AreRivals x) (is_rival x)
rival_tests x = record { gives = rival_gives x; told = rival_told x }

pub rivals_or_not : (x y : RunText) → AreRivals x y ⊎ (AreRivals x y → ⊥)
rivals_or_not x y = elim (bool_cases (is_rival x y)) [
  | inl e ↦ inl (rival_gives x y e)
  | inr e ↦ inr (λ r. let t = rival_told x y r in absurd cc)
]

-- ---- rivals are so in both directions, and nobody is his own

kind_turned : (x y : Text) → AreOfOneKind x y → AreOfOneKind y x
kind_turned (OfStatement s) (OfStatement t) e = sym e
kind_turned (OfStatement s) (OfHead t) e = e
kind_turned (OfHead s) (OfStatement t) e = e
kind_turned (OfHead s) (OfHead t) e = e

pub rivals_turned : (x y : RunText) → AreRivals x y → AreRivals y x
rivals_turned x y r = record {
  runs = record {
    slot = r.runs.slot;
    one = r.runs.other;
    other = r.runs.one;
    generals = sym r.runs.generals;
    roots = sym r.runs.roots;
    unequal = λ e. r.runs.unequal (sym e);
  };
  kind = kind_turned x.text.text y.text.text r.kind;
  different = elim r.different [ inl ids ↦ inl (λ e. ids (sym e)) | inr ne ↦ inr (λ e. ne (sym e)) ];
}

pub no_own_rival : (x y : RunText) → AreRivals x y → x ≡ y → ⊥
no_own_rival x y r e = r.runs.unequal (ap (λ (z : RunText). z.header) e)

-- ---- leaves

same_slot : (h k : RunHeader) → ShareLeaves h k → slot_of h ≡ slot_of k
same_slot h k s = slots h.version k.version s.one s.other
  where
    slots : (v w : Version) → v ≡ Two s.slot → w ≡ Two s.slot → slot_in v ≡ slot_in w
    slots v w e f = ap slot_in e ∙ sym (ap slot_in f)

leaves_meet : (h k : RunHeader) (x y : Text) → slot_of h ≡ slot_of k → AreOfOneKind x y → leaf_of h x ≡ leaf_of k y
leaves_meet h k (OfStatement s) (OfStatement t) e same = omega (arith, e, same)
leaves_meet h k (OfStatement s) (OfHead t) e same = absurd same
leaves_meet h k (OfHead s) (OfStatement t) e same = absurd same
leaves_meet h k (OfHead s) (OfHead t) e same = omega (arith, e)

pub one_leaf : OneLeaf
one_leaf x y r = leaves_meet x.header y.header x.text.text y.text.text (same_slot x.header y.header r.runs) r.kind

pub slots_apart : SlotsApart
slots_apart h k m n few_m few_n ne = λ e. ne (omega (arith, few_m, few_n, e))

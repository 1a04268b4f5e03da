-- Two lists in two parts each are equal where their parts are.
use Rattle.std.proofs.Common.{◌≡◌, ℕ, true, false, List, ◌++◌, length, take, refl, ap, sym, ◌∙◌}
use Rattle.std.specs.Bool.{nat_eq}
use Rattle.std.specs.Cmp.Lexicographic.{pointwise}
use Rattle.std.proofs.lemmas.Bool.Decides.{same_from_decides}
use Rattle.std.proofs.lemmas.List.{take_at, append_cancel_left}
use Rattle.std.proofs.lemmas.Slice.Eq.{bytes_eq-Decides}

front_of : (a b c d : List ℕ) → length a ≡ length c → a ++ b ≡ c ++ d → a ≡ c
front_of a b c d long e = sym (take_at a b (length a) refl) ∙ ap (take (length a)) e ∙ take_at c d (length a) (sym long)

pub front_same : (a b c d : List ℕ) → pointwise nat_eq a c ≡ true → pointwise nat_eq b d ≡ pointwise nat_eq (a ++ b) (c ++ d)
front_same a b c d same =
    let e : a ≡ c = (bytes_eq-Decides a c).0 same in
    same_from_decides (pointwise nat_eq b d) (pointwise nat_eq (a ++ b) (c ++ d)) (bytes_eq-Decides b d) (
      (λ h. append_cancel_left a b d ((bytes_eq-Decides (a ++ b) (c ++ d)).0 h ∙ ap (λ x. x ++ d) (sym e))),
      (λ h. (bytes_eq-Decides (a ++ b) (c ++ d)).1 (ap (λ x. x ++ b) e ∙ ap (λ y. c ++ y) h)),
    )

pub front_other : (a b c d : List ℕ) → length a ≡ length c → pointwise nat_eq a c ≡ false → pointwise nat_eq a c ≡ pointwise nat_eq (a ++ b) (c ++ d)
front_other a b c d long other =
    same_from_decides (pointwise nat_eq a c) (pointwise nat_eq (a ++ b) (c ++ d)) (bytes_eq-Decides a c) (
      (λ h. front_of a b c d long ((bytes_eq-Decides (a ++ b) (c ++ d)).0 h)),
      (λ h. let same : pointwise nat_eq a c ≡ true = (bytes_eq-Decides a c).1 h in absurd (cc (same, other))),
    )

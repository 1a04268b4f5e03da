-- Tables with a cell for each order.
use Rattle.std.proofs.Common.{◌≡◌, ◌↔◌, ℕ, zero, suc, ◌<◌, List, [], ◌∷◌, length, get_or, set, Option, Some, refl, sym, ap, ◌∙◌, subst, arith}
use Rattle.std.specs.Prelude.{slice_set}
use Rattle.std.proofs.lemmas.List.{get_or-set_same, get_or-set_other, get_or_default}
use Rattle.gen_net.specs.Network.{Network}
use Rattle.gen_net.specs.Log.{LogEntry}
use Rattle.gen_local.specs.declared.progress.Progress.{Progress}
use Rattle.gen_local.specs.declared.progress.Progress.TheVariants.{Unlearnt}
use Rattle.gen_local.specs.Walking.Brought.{Brings, IsOf, AreBrought}

length_set : {X : Type 0} (xs : List X) (i : ℕ) (y : X) → length (set xs i y) ≡ length xs
length_set [] i y = refl
length_set (x ∷ xs) zero y = refl
length_set (x ∷ xs) (suc i) y = ap suc (length_set xs i y)

pub brought_one : (net : Network) (g : ℕ) (old : List Progress) (e : LogEntry) (o at : ℕ) (p q : Progress) → length old ≡ 16 → o < 16 → at ≡ o → ((v : ℕ) → (Some o ≡ Some v) ↔ IsOf v e) → ((v : ℕ) → Brings net g v (get_or old at q) e p) → AreBrought net g old e (slice_set old at p)
brought_one net g old e o at p q all low same told b = record {
  all = length_set old at p ∙ all;
  own = λ v l of.
      let which : o ≡ v = let s : Some o ≡ Some v = (told v).1 of in cc in
      let there : at < length old = omega (arith, same, low, all) in
      let new_is : get_or (set old at p) at Unlearnt ≡ p = get_or-set_same old at p Unlearnt there in
      let old_is : get_or old at q ≡ get_or old at Unlearnt = get_or_default old at q Unlearnt there in
      let at_v : at ≡ v = same ∙ which in
      subst (λ w. Brings net g v (get_or old w Unlearnt) e (get_or (set old at p) w Unlearnt)) at_v
      (subst (λ s. Brings net g v (get_or old at Unlearnt) e s) (sym new_is) (subst (λ s. Brings net g v s e p) old_is (b v)));
  others = λ v l other. get_or-set_other old at v p Unlearnt (λ q'. let s : Some o ≡ Some v = ap (λ n. Some n) (sym same ∙ sym q') in other ((told v).0 s));
}

pub brought_none : (net : Network) (g : ℕ) (old : List Progress) (e : LogEntry) (r : Option ℕ) → length old ≡ 16 → ((v : ℕ) → r ≡ Some v → ⊥) → ((v : ℕ) → (r ≡ Some v) ↔ IsOf v e) → AreBrought net g old e old
brought_none net g old e r all none told = record {
  all = all;
  own = λ v l of. absurd (none v ((told v).1 of));
  others = λ v l other. refl;
}

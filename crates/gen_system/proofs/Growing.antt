-- One root more.
use Rattle.std.proofs.Common.{◌≡◌, ◌<◌, ◌+◌, ℕ, true, List, [], ◌∷◌, ◌++◌, length, map, take, get_or, refl, sym, ap, subst, ◌∙◌, arith}
use Rattle.std.specs.Prelude.{◌==◌}
use Rattle.std.specs.List.{AllByRecursion, range_with_len}
use Rattle.std.proofs.lemmas.List.{get_or-map, take_more}
use Rattle.std.proofs.lemmas.List.Folds.{list_all_more}
use Rattle.std.proofs.lemmas.List.FromFn.{map-range_with_len_more}
use Rattle.gen_system.specs.declared.opened_roots.OpenedRoot.{OpenedRoot}
use Rattle.gen_system.specs.Admissions.{SetAdmission, have_levels, root_in}
use Rattle.gen_system.specs.Runs.{node_of}

pub levels_more : (levels : ℕ) (xs : List OpenedRoot) (i : ℕ) (o d : OpenedRoot) → i < length xs → o ≡ get_or xs i d → have_levels levels (take i xs) ≡ true → (length o.opening == levels) ≡ true → have_levels levels (take (i + 1) xs) ≡ true
levels_more levels xs i o d lt is all here =
    let last : (length (get_or xs i d).opening == levels) ≡ true = subst (λ (x : OpenedRoot). (length x.opening == levels) ≡ true) is here in
    list_all_more (λ (x : OpenedRoot). length x.opening == levels) xs i d lt ∙ rw (all, last) refl

pub all_more : {X : Type 0} (P : X → Type 0) (xs : List X) (x : X) → AllByRecursion P xs → P x → AllByRecursion P (xs ++ x ∷ [])
all_more P [] x all here = (here, tt)
all_more P (y ∷ xs) x all here = (all.0, all_more P xs x all.1 here)

pub each_more : {X : Type 0} (P : X → Type 0) (xs : List X) (i : ℕ) (x d : X) → i < length xs → x ≡ get_or xs i d → AllByRecursion P (take i xs) → P x → AllByRecursion P (take (i + 1) xs)
each_more {X} P xs i x d lt is all here =
    rw (take_more xs i d lt) (all_more P (take i xs) (get_or xs i d) all (subst P is here))

pub root_at : (a : SetAdmission) (v : ℕ) (d : OpenedRoot) → v < length a.opened → root_in a v ≡ (get_or a.opened v d).root
root_at a v d lt = get_or-map (λ (o : OpenedRoot). o.root) a.opened v d [] lt

pub roots_more : (a : SetAdmission) (run n : ℕ) (roots new : List (List ℕ)) (xs : List OpenedRoot) (v : ℕ) (d : OpenedRoot) → xs ≡ a.opened → v ≡ node_of a.system run n → v < length xs
    → roots ≡ map (λ general. root_in a (node_of a.system run general)) (range_with_len 0 n) → new ≡ roots ++ (get_or xs v d).root ∷ [] → new ≡ map (λ general. root_in a (node_of a.system run general)) (range_with_len 0 (n + 1))
roots_more a run n roots new xs v d all is lt so_far grown =
    let f : ℕ → List ℕ = λ general. root_in a (node_of a.system run general) in
    let last : (get_or xs v d).root ≡ f n
    = ap (λ (ys : List OpenedRoot). (get_or ys v d).root) all
    ∙ sym (root_at a v d (subst (λ (ys : List OpenedRoot). v < length ys) all lt))
    ∙ ap (root_in a) is in
    grown ∙ ap (λ (ys : List (List ℕ)). ys ++ (get_or xs v d).root ∷ []) so_far
    ∙ ap (λ (x : List ℕ). map f (range_with_len 0 n) ++ x ∷ []) last
    ∙ sym (map-range_with_len_more f 0 n n (omega arith))

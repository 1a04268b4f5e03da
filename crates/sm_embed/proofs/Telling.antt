-- The facts of runs, appended one after another.
use Rattle.std.proofs.Common.{◌≡◌, ℕ, ◌+◌, ◌<◌, zero, suc, List, [], ◌∷◌, ◌++◌, map, length, arith, ap, ◌∙◌, sym, add-one, refl, append_assoc}
use Rattle.std.specs.Prelude.{slice_index_or}
use Rattle.std.specs.List.{flat_map, range_with_len}
use Rattle.std.proofs.lemmas.List.{append-nil}
use Rattle.std.proofs.lemmas.Grind.{common_steps, flat_map-append}
use Rattle.gen_enrolling.specs.declared.admitted.AdmittedRun.{AdmittedRun}
use Rattle.gen_enrolling.specs.Admitted.{told_run}
use Rattle.sm_embed.specs.RunFacts.{no_run}

-- one number more
one_more : (a n j : ℕ) → a + n ≡ j → range_with_len a (suc n) ≡ range_with_len a n ++ j ∷ []
one_more a zero j e = grind (arith, common_steps)
one_more a (suc n) j e = let next : (a + 1) + n ≡ j = omega arith in ap (λ xs. a ∷ xs) (one_more (a + 1) n j next)

-- what is made of one number more is appended behind what was made of those before
pub grown : {A : Type 0} (f : ℕ → List A) (n : ℕ) (start old new xs : List A)
    → old ≡ start ++ flat_map f (range_with_len 0 n) → new ≡ old ++ xs → xs ≡ f n
    → new ≡ start ++ flat_map f (range_with_len 0 (n + 1))
grown f n start old new xs before items here =
    items ∙ ap (λ ys. ys ++ xs) before ∙ append_assoc start (flat_map f (range_with_len 0 n)) xs
    ∙ ap (λ ys. start ++ (flat_map f (range_with_len 0 n) ++ ys)) (here ∙ sym (append-nil (f n)))
    ∙ ap (λ ys. start ++ ys) (sym (flat_map-append f (range_with_len 0 n) (n ∷ []))
    ∙ ap (λ xs. flat_map f xs) (sym (one_more 0 n n (omega arith)) ∙ ap (λ k. range_with_len 0 k) (sym (add-one n))))

-- the run at a place, as it is told
pub told_at : (runs : List AdmittedRun) (place : ℕ) (d : AdmittedRun) → place < length runs
    → slice_index_or (map told_run runs) place no_run ≡ told_run (slice_index_or runs place d)
told_at [] place d lt = absurd (omega (arith, lt))
told_at (run ∷ runs) zero d lt = refl
told_at (run ∷ runs) (suc place) d lt = told_at runs place d (omega (arith, lt))

-- a number at a place, whatever is said for places where there is none
pub at_any : (xs : List ℕ) (place d : ℕ) → place < length xs → slice_index_or xs place d ≡ slice_index_or xs place 0
at_any [] place d lt = absurd (omega (arith, lt))
at_any (x ∷ xs) zero d lt = refl
at_any (x ∷ xs) (suc place) d lt = at_any xs place d (omega (arith, lt))

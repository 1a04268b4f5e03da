-- One run more that is told.
use Rattle.std.proofs.Common.{◌≡◌, ◌+◌, ◌∙◌, ◌<◌, ◌≤◌, ◌^◌, ℕ, List, [], ◌∷◌, ◌++◌, ap, arith, map, sym}
use Rattle.std.specs.List.{range_with_len}
use Rattle.std.proofs.lemmas.List.{map-append}
use Rattle.std.proofs.lemmas.List.FromFn.{map-range_with_len_more}
use Rattle.std.proofs.Math.Nat.{pow-le-pow_right}
use Rattle.gen_identity.specs.Openings.{most_levels}
use Rattle.gen_enrolling.specs.declared.admitted.AdmittedRun.{AdmittedRun}
use Rattle.gen_enrolling.specs.Admitted.{RunTold, told_run}

pub few_sets : (levels set : ℕ) → levels ≤ most_levels → set < 2 ^ levels → set < 2 ^ 20
few_sets levels set few below =
    let most : 2 ^ levels ≤ 2 ^ 20 = pow-le-pow_right {n = 2} (omega arith) few in
    omega (arith, below, most)

pub node_more : (f : ℕ → ℕ) (nodes new : List ℕ) (one n : ℕ) → nodes ≡ map f (range_with_len 0 n) → new ≡ nodes ++ one ∷ [] → one ≡ f n
    → new ≡ map f (range_with_len 0 (n + 1))
node_more f nodes new one n so_far grown is =
    grown
    ∙ ap (λ (xs : List ℕ). xs ++ one ∷ []) so_far
    ∙ ap (λ (x : ℕ). map f (range_with_len 0 n) ++ x ∷ []) is
    ∙ sym (map-range_with_len_more f 0 n n (omega arith))

pub run_more : (f : ℕ → RunTold) (runs new : List AdmittedRun) (one : AdmittedRun) (n : ℕ) → map told_run runs ≡ map f (range_with_len 0 n) → new ≡ runs ++ one ∷ [] → told_run one ≡ f n
    → map told_run new ≡ map f (range_with_len 0 (n + 1))
run_more f runs new one n so_far grown is =
    ap (map told_run) grown ∙ map-append told_run runs (one ∷ [])
    ∙ ap (λ (rs : List RunTold). rs ++ told_run one ∷ []) so_far
    ∙ ap (λ (r : RunTold). map f (range_with_len 0 n) ++ r ∷ []) is
    ∙ sym (map-range_with_len_more f 0 n n (omega arith))

-- Five texts or more spell no runs that are asked for.
use Rattle.std.proofs.Common.{◌≡◌, ◌≤◌, ℕ, List, [], ◌∷◌, Option, Some, None, map, length, option_and_then, refl, arith, Bor}
use Rattle.gen_asked.specs.AskedRuns.{few_runs, ids_named, joined, run_id_named}

five : (a b c d e : Option (List ℕ)) (others : Option (List (List ℕ))) → None ≡ option_and_then few_runs (joined a (joined b (joined c (joined d (joined e others)))))
five None b c d e others = refl
five (Some v) None c d e others = refl
five (Some v) (Some w) None d e others = refl
five (Some v) (Some w) (Some x) None e others = refl
five (Some v) (Some w) (Some x) (Some y) None others = refl
five (Some v) (Some w) (Some x) (Some y) (Some z) None = refl
five (Some v) (Some w) (Some x) (Some y) (Some z) (Some ids) = refl

pub too_many : (texts : List (Bor (List ℕ))) → 5 ≤ length texts → None ≡ option_and_then few_runs (ids_named (map (λ (x : Bor (List ℕ)). x.now) texts))
unfolding ids_named
too_many [] le = absurd (omega (arith, le))
too_many (a ∷ []) le = absurd (omega (arith, le))
too_many (a ∷ b ∷ []) le = absurd (omega (arith, le))
too_many (a ∷ b ∷ c ∷ []) le = absurd (omega (arith, le))
too_many (a ∷ b ∷ c ∷ d ∷ []) le = absurd (omega (arith, le))
too_many (a ∷ b ∷ c ∷ d ∷ e ∷ texts) le =
    five (run_id_named a.now) (run_id_named b.now) (run_id_named c.now) (run_id_named d.now) (run_id_named e.now) (ids_named (map (λ (x : Bor (List ℕ)). x.now) texts))

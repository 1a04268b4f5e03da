-- Arrays that a loop fills lane by lane.
use Rattle.std.proofs.Common.{◌≡◌, ℕ, ◌<◌, ◌+◌, List, length, slice_index_or, slice_set, replicate, arith, ◌∙◌}
use Rattle.std.proofs.lemmas.List.{length-replicate, length-set}
use Rattle.sha_lanes.specs.declared.words.TheConstants.{LANES}
use Rattle.sha_lanes.proofs.LaneFacts.{each_more}

-- the first n lanes hold what f gives for them
abbrev pub Fills : {X : Type 0} → (ℕ → X) → ℕ → List X → Type 0
Fills {X} f n xs = (length xs ≡ LANES) × ((k : ℕ) → k < n → (d : X) → slice_index_or xs k d ≡ f k)

pub none_filled : {X : Type 0} (f : ℕ → X) (x : X) → Fills f 0 (replicate LANES x)
none_filled f x = (length-replicate LANES x, λ k none. absurd (omega arith))

pub one_filled : {X : Type 0} (f : ℕ → X) (i : ℕ) (xs : List X) (x : X) → i < LANES → x ≡ f i → Fills f i xs
    → Fills f (i + 1) (slice_set xs i x)
one_filled {X} f i xs x below here filled =
    let inside : i < length xs = omega (arith, filled.0) in
    (length-set xs i x ∙ filled.0, each_more (λ (k : ℕ) (y : X). y ≡ f k) xs i x inside here filled.1)

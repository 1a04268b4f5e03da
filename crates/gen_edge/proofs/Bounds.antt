-- How many frames go over an edge, and that nothing comes behind the last word.
use Rattle.std.proofs.Common.{◌≡◌, ℕ, zero, suc, ◌+◌, ◌<◌, ◌≤◌, ◌⊎◌, ⊎_elim, Bool, true, false, true≢false, List, [], ◌∷◌, ◌++◌, length, map, take, drop, Some, sym, refl, ap, ◌∙◌, arith, length-append}
use Rattle.std.proofs.lemmas.List.{append-nil, length-map}
use Rattle.crossbeam_queue.specs.Fifo.{Held}
use Rattle.gen_edge.specs.declared.frames.Frame.{Frame}
use Rattle.gen_edge.specs.declared.frames.Frame.TheVariants.{Round, Gone}
use Rattle.gen_edge.specs.declared.rule.PassView.{PassView}
use Rattle.gen_edge.specs.Frames.{Parcels, Carried, round, gone, carried, number_of, numbered, ending, row}
use Rattle.gen_edge.specs.Tied.{ComesNext, TakesNext, PutsSee, TakesSee, after_put}
use Rattle.gen_edge.proofs.Rows.{head_is, some_below, empty_is_not}

abbrev is_round : Carried → Bool
is_round (round n p) = true
is_round gone = false

-- what the counter of a pass says after a frame of this number went
pub record IsCounted (frames : List Parcels) (count number : ℕ) (ended was : Bool) : Type 0 where
  pub counted : count ≡ number
  pub kept : ended ≡ was
  pub within : number ≤ length frames

pub put_counted : (v w : PassView) (x : Frame) (number : ℕ) → number_of (carried x) ≡ Some number → ComesNext v.frames v.put v.gone_put (carried x) → w ≡ after_put v (carried x)
    → IsCounted w.frames w.put number w.gone_put v.gone_put
put_counted v w (Round k parcels) number is next e =
    let below = some_below v.frames v.put parcels.items next.1.1 in
    let same : k ≡ number = cc in
    let nth : k ≡ v.put + 1 = next.1.0 in
    rw e (record { counted = sym nth ∙ same; kept = refl; within = omega (arith, below, same, nth) })
put_counted v w Gone number is next e = absurd cc

pub take_counted : (v w : PassView) (x : Frame) (number : ℕ) → number_of (carried x) ≡ Some number → TakesNext v x w → IsCounted w.frames w.taken number w.gone_taken v.gone_taken
take_counted v w (Round k parcels) number is (next, e) =
    let below = some_below v.frames v.taken parcels.items next.1.1 in
    let same : k ≡ number = cc in
    let nth : k ≡ v.taken + 1 = next.1.0 in
    rw e (record { counted = sym nth ∙ same; kept = refl; within = omega (arith, below, same, nth) })
take_counted v w Gone number is next = absurd cc

taken_few : (n : ℕ) (xs : List Parcels) → length (take n xs) ≤ n
taken_few zero xs = omega arith
taken_few (suc n) [] = omega arith
taken_few (suc n) (x ∷ xs) = let h = taken_few n xs in omega arith

numbered_many : (k : ℕ) (xs : List Parcels) → length (numbered k xs) ≡ length xs
numbered_many k [] = refl
numbered_many k (x ∷ xs) = ap suc (numbered_many (k + 1) xs)

row_few : (frames : List Parcels) (n : ℕ) → length (row frames n false) ≤ n
row_few frames n =
    let a = length-append (numbered 0 (take n frames)) [] in
    let b = numbered_many 0 (take n frames) in
    let c = taken_few n frames in
    omega (arith, a, b, c)

-- where something comes next, the last word did not come
pub open_before : (frames : List Parcels) (n : ℕ) (ended : Bool) (x : Carried) → ComesNext frames n ended x → ended ≡ false
open_before frames n ended (round number parcels) next = next.0
open_before frames n ended gone next = next

taken_all : (n : ℕ) (xs : List Parcels) → n ≤ length xs → length (take n xs) ≡ n
taken_all zero xs within = refl
taken_all (suc n) [] within = absurd (omega arith)
taken_all (suc n) (x ∷ xs) within = ap suc (taken_all n xs (omega arith))

row_many : (frames : List Parcels) (n : ℕ) (ended : Bool) → n ≤ length frames → n ≤ length (row frames n ended)
row_many frames n ended within =
    let a = length-append (numbered 0 (take n frames)) (ending ended) in
    let b = numbered_many 0 (take n frames) in
    let c = taken_all n frames within in
    omega (arith, a, b, c)

-- a queue that is full holds no more than was put and, as far as the pass was told, not taken
pub full_of_puts : (n : ℕ) (v : PassView) → v.put ≤ length v.frames → v.gone_put ≡ false → Held n (PutsSee v) → v.freed + n ≤ v.put
full_of_puts n v within open_yet (items, many, (taken, gone_taken, told, behind, rests)) =
    let few = row_few v.frames v.put in
    let gone_by = row_many v.frames taken gone_taken (omega (arith, behind, within)) in
    let all : row v.frames v.put false ≡ row v.frames taken gone_taken ++ map carried items = ap (λ b. row v.frames v.put b) (sym open_yet) ∙ rests in
    let long = ap length all in
    let sum = length-append (row v.frames taken gone_taken) (map carried items) in
    let each = length-map items carried in
    omega (arith, few, gone_by, told, long, sum, each, many)

nothing_behind : (k j : ℕ) (l m : List Parcels) (ended : Bool) (xs : List Carried) → numbered k l ++ ending ended ≡ (numbered j m ++ gone ∷ []) ++ xs → xs ≡ []
nothing_behind k j [] [] true xs e = sym (ap (drop 1) e)
nothing_behind k j [] [] false xs e = absurd (empty_is_not gone xs e)
nothing_behind k j [] (y ∷ ys) true xs e = absurd (true≢false (ap is_round (sym (head_is gone (round (j + 1) y) [] ((numbered (j + 1) ys ++ gone ∷ []) ++ xs) e))))
nothing_behind k j [] (y ∷ ys) false xs e = absurd (empty_is_not (round (j + 1) y) ((numbered (j + 1) ys ++ gone ∷ []) ++ xs) e)
nothing_behind k j (x ∷ l) [] ended xs e = absurd (true≢false (ap is_round (head_is (round (k + 1) x) gone (numbered (k + 1) l ++ ending ended) xs e)))
nothing_behind k j (x ∷ l) (y ∷ ys) ended xs e = nothing_behind (k + 1) (j + 1) l ys ended xs (ap (drop 1) e)

no_round : (k : ℕ) (p : Parcels) (xs : List Carried) (ended : Bool) → ending ended ≡ round k p ∷ xs → ⊥
no_round k p xs true e = true≢false (sym (ap is_round (head_is gone (round k p) [] xs e)))
no_round k p xs false e = empty_is_not (round k p) xs e

-- two rows are the same only where they have as many frames, and ended both or neither
rows_alike : (k : ℕ) (frames : List Parcels) (n t : ℕ) (g h : Bool) → n ≤ length frames → t ≤ length frames → numbered k (take n frames) ++ ending g ≡ numbered k (take t frames) ++ ending h
    → (n ≡ t) × (g ≡ h)
rows_alike k frames zero zero true true a b e = (refl, refl)
rows_alike k frames zero zero false false a b e = (refl, refl)
rows_alike k frames zero zero true false a b e = absurd (empty_is_not gone [] (sym e))
rows_alike k frames zero zero false true a b e = absurd (empty_is_not gone [] e)
rows_alike k [] (suc n) t g h a b e = absurd (omega arith)
rows_alike k [] zero (suc t) g h a b e = absurd (omega arith)
rows_alike k (x ∷ xs) (suc n) zero g h a b e = absurd (no_round (k + 1) x (numbered (k + 1) (take n xs) ++ ending g) h (sym e))
rows_alike k (x ∷ xs) zero (suc t) g h a b e = absurd (no_round (k + 1) x (numbered (k + 1) (take t xs) ++ ending h) g e)
rows_alike k (x ∷ xs) (suc n) (suc t) g h a b e = let more = rows_alike (k + 1) xs n t g h (omega arith) (omega arith) (ap (drop 1) e) in (ap suc more.0, more.1)

-- who finds a queue empty knows of nothing that he did not take
pub none_missed : (v : PassView) → Held 0 (TakesSee v) → (v.taken < v.known) ⊎ ((v.known_gone ≡ true) × (v.gone_taken ≡ false)) → ⊥
none_missed v (x ∷ items, none, see) more = absurd (omega arith)
none_missed v ([], none, (put, gone_put, behind, within, known, rests)) more =
    let same = rows_alike 0 v.frames put v.taken gone_put v.gone_taken within (omega arith) (rests ∙ append-nil (row v.frames v.taken v.gone_taken)) in
    let many = same.0 in let few = known.0 in
    ⊎_elim (λ (fewer : v.taken < v.known). absurd (omega (arith, many, few, fewer)))
    (λ (ended : (v.known_gone ≡ true) × (v.gone_taken ≡ false)). true≢false (sym (known.1 ended.0) ∙ same.1 ∙ ended.1)) more

-- behind the last word nothing is left
pub nothing_left : (frames : List Parcels) (n t : ℕ) (g h : Bool) (left : List Frame) → row frames n g ≡ row frames t h ++ map carried left → h ≡ true → left ≡ []
nothing_left frames n t g h [] e ended = refl
nothing_left frames n t g h (x ∷ left) e ended =
    let all : row frames n g ≡ row frames t true ++ map carried (x ∷ left) = e ∙ ap (λ b. row frames t b ++ map carried (x ∷ left)) ended in
    absurd (empty_is_not (carried x) (map carried left) (sym (nothing_behind 0 0 (take n frames) (take t frames) g (map carried (x ∷ left)) all)))

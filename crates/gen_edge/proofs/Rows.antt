-- Rows of frames.
use Rattle.std.proofs.Common.{◌≡◌, ℕ, zero, suc, ◌+◌, ◌<◌, ◌≤◌, ◌⊎◌, inl, inr, ⊎_elim, Bool, true, false, List, [], ◌∷◌, ◌++◌, length, take, drop, sym, refl, ap, ◌∙◌, arith}
use Rattle.std.proofs.lemmas.List.{append-nil}
use mathlib.Core.Option.{some, some-injective, some-ne-none}
use lib.ListN.{get_elem?}
use Rattle.gen_edge.specs.Frames.{Parcels, Carried, round, gone, numbered, ending, row}

pub head_is : (x y : Carried) (xs ys : List Carried) → x ∷ xs ≡ y ∷ ys → x ≡ y
head_is x y xs ys e = some-injective x y (ap (λ l. get_elem? l 0) e)

pub empty_is_not : (x : Carried) (xs : List Carried) → [] ≡ x ∷ xs → ⊥
empty_is_not x xs e = some-ne-none x (sym (ap (λ l. get_elem? l 0) e))

pub some_below : (frames : List Parcels) (n : ℕ) (p : Parcels) → get_elem? frames n ≡ some p → n < length frames
some_below [] n p e = absurd (some-ne-none p (sym e))
some_below (x ∷ xs) zero p e = omega arith
some_below (x ∷ xs) (suc n) p e = let h = some_below xs n p e in omega arith

numbered_step : (k : ℕ) (frames : List Parcels) (n : ℕ) (p : Parcels) → get_elem? frames n ≡ some p → numbered k (take (n + 1) frames) ≡ numbered k (take n frames) ++ round (k + n + 1) p ∷ []
numbered_step k [] n p e = absurd (some-ne-none p (sym e))
numbered_step k (x ∷ xs) zero p e = let m : k + 1 ≡ k + 0 + 1 = omega arith in λ i. round (m i) (some-injective x p e i) ∷ []
numbered_step k (x ∷ xs) (suc n) p e =
    let m : suc n + 1 ≡ suc (n + 1) = omega arith in let q : k + 1 + n + 1 ≡ k + suc n + 1 = omega arith in
    ap (λ j. numbered k (take j (x ∷ xs))) m ∙ ap (λ l. round (k + 1) x ∷ l) (numbered_step (k + 1) xs n p e ∙ ap (λ j. numbered (k + 1) (take n xs) ++ round j p ∷ []) q)

-- one frame more
pub row_step : (frames : List Parcels) (n number : ℕ) (p : Parcels) → number ≡ n + 1 → get_elem? frames n ≡ some p → row frames (n + 1) false ≡ row frames n false ++ round number p ∷ []
row_step frames n number p m e =
    append-nil (numbered 0 (take (n + 1) frames)) ∙ numbered_step 0 frames n p e
    ∙ (let q : 0 + n + 1 ≡ number = omega arith in λ i. sym (append-nil (numbered 0 (take n frames))) i ++ round (q i) p ∷ [])

-- the word that no more comes
pub row_end : (frames : List Parcels) (n : ℕ) → row frames n true ≡ row frames n false ++ gone ∷ []
row_end frames n = ap (λ l. l ++ gone ∷ []) (sym (append-nil (numbered 0 (take n frames))))

-- what comes after the first t frames of a row of n frames, in a run whose first number is k + 1
abbrev Turn : ℕ → List Parcels → ℕ → ℕ → Bool → Carried → List Carried → Type 0
Turn k frames t n ended x rest =
    ((p : Parcels) × (get_elem? frames t ≡ some p) × (x ≡ round (k + t + 1) p) × (t < n)) ⊎ ((t ≡ n) × (ended ≡ true) × (x ≡ gone) × (rest ≡ []))

at_end : (ended : Bool) (x : Carried) (rest : List Carried) → ending ended ≡ x ∷ rest → (ended ≡ true) × (x ≡ gone) × (rest ≡ [])
at_end true x rest e = (refl, sym (head_is gone x [] rest e), ap (drop 1) (sym e))
at_end false x rest e = absurd (empty_is_not x rest e)

turn : (k : ℕ) (frames : List Parcels) (t n : ℕ) (ended : Bool) (x : Carried) (rest : List Carried) → t ≤ n → n ≤ length frames
    → numbered k (take n frames) ++ ending ended ≡ numbered k (take t frames) ++ x ∷ rest → Turn k frames t n ended x rest
turn k frames zero zero ended x rest a b e = let h = at_end ended x rest e in inr (refl, h.0, h.1, h.2)
turn k [] zero (suc n) ended x rest a b e = absurd (omega arith)
turn k [] (suc t) n ended x rest a b e = absurd (omega arith)
turn k (y ∷ ys) zero (suc n) ended x rest a b e = let q : k + 1 ≡ k + 0 + 1 = omega arith in inl (y, refl, sym (head_is (round (k + 1) y) x _ rest e) ∙ ap (λ j. round j y) q, omega arith)
turn k (y ∷ ys) (suc t) zero ended x rest a b e = absurd (omega arith)
turn k (y ∷ ys) (suc t) (suc n) ended x rest a b e =
    let q : k + 1 + t + 1 ≡ k + suc t + 1 = omega arith in
    ⊎_elim (λ (h : (p : Parcels) × (get_elem? ys t ≡ some p) × (x ≡ round (k + 1 + t + 1) p) × (t < n)). inl (h.0, h.1, h.2 ∙ ap (λ j. round j h.0) q, let l = h.3 in omega arith))
    (λ (h : (t ≡ n) × (ended ≡ true) × (x ≡ gone) × (rest ≡ [])). inr (ap suc h.0, h.1, h.2, h.3))
    (turn (k + 1) ys t n ended x rest (omega arith) (omega arith) (ap (drop 1) e))

-- what comes next in a row
pub comes : (frames : List Parcels) (t n : ℕ) (ended : Bool) (x : Carried) (rest : List Carried) → t ≤ n → n ≤ length frames → row frames n ended ≡ row frames t false ++ x ∷ rest
    → ((p : Parcels) × (get_elem? frames t ≡ some p) × (x ≡ round (t + 1) p) × (t < n)) ⊎ ((t ≡ n) × (ended ≡ true) × (x ≡ gone) × (rest ≡ []))
comes frames t n ended x rest a b e =
    let q : 0 + t + 1 ≡ t + 1 = omega arith in
    ⊎_elim (λ (h : (p : Parcels) × (get_elem? frames t ≡ some p) × (x ≡ round (0 + t + 1) p) × (t < n)). inl (h.0, h.1, h.2 ∙ ap (λ j. round j h.0) q, h.3))
    (λ (h : (t ≡ n) × (ended ≡ true) × (x ≡ gone) × (rest ≡ [])). inr h)
    (turn 0 frames t n ended x rest a b (e ∙ ap (λ l. l ++ x ∷ rest) (append-nil (numbered 0 (take t frames)))))

-- Lists of pairs, made number by number.
use Rattle.std.proofs.Common.{◌≡◌, ℕ, ◌+◌, ◌-◌, ◌<◌, zero, suc, true, false, List, [], ◌∷◌, ◌++◌, refl, sym, ap, ◌∙◌, arith, Some, None, append-nil}
use Rattle.std.specs.List.{flat_map, range_with_len}
use Rattle.std.proofs.lemmas.Grind.{flat_map-append}
use Rattle.std.proofs.lemmas.List.{append_assoc}
use Rattle.gen_types.specs.Members.{range_more}
use Rattle.gen_net.specs.Header.{RunHeader}
use Rattle.gen_plan.specs.EqualRoots.{share_root, pair_of, first_pair}

-- one number more
pub one_more : {A : Type 0} (f : ℕ → List A) (k : ℕ) → flat_map f (range_with_len 0 (k + 1)) ≡ flat_map f (range_with_len 0 k) ++ f k
one_more f k =
    ap (flat_map f) (range_more 0 k ∙ ap (λ x. range_with_len 0 k ++ x ∷ []) (omega arith))
    ∙ flat_map-append f (range_with_len 0 k) (k ∷ [])
    ∙ ap (λ xs. flat_map f (range_with_len 0 k) ++ xs) (append-nil (f k))

-- a range is what stands before a number of it, this number, and what stands behind it
range_at : (a k n : ℕ) → range_with_len a (k + suc n) ≡ range_with_len a k ++ (a + k) ∷ range_with_len (a + k + 1) n
range_at a zero n = let e : a + 0 ≡ a = omega arith in let z : 0 + suc n ≡ suc n = omega arith in rw (z, e) refl
range_at a (suc k) n =
    let e : suc k + suc n ≡ suc (k + suc n) = omega arith in
    let f : a + 1 + k ≡ a + suc k = omega arith in
    ap (range_with_len a) e ∙ ap (λ r. a ∷ r) (range_at (a + 1) k n) ∙ ap (λ x. a ∷ (range_with_len (a + 1) k ++ x ∷ range_with_len (x + 1) n)) f

pub none_is_not_some : (pair : ℕ × ℕ) → None ≡ Some pair → ⊥
none_is_not_some pair e = cc

first_before : (xs ys : List (ℕ × ℕ)) (pair : ℕ × ℕ) → first_pair xs ≡ Some pair → first_pair (xs ++ ys) ≡ Some pair
unfolding first_pair
first_before [] ys pair is = absurd (none_is_not_some pair is)
first_before (x ∷ xs) ys pair is = is

-- the first pair is that of the first number that gives one
pub first_at : (f : ℕ → List (ℕ × ℕ)) (n k : ℕ) (pair : ℕ × ℕ) → k < n → flat_map f (range_with_len 0 k) ≡ [] → first_pair (f k) ≡ Some pair → first_pair (flat_map f (range_with_len 0 n)) ≡ Some pair
first_at f n k pair inside none is =
    let e : k + suc (n - k - 1) ≡ n = omega arith in
    let z : 0 + k ≡ k = omega arith in
    let back = range_with_len (k + 1) (n - k - 1) in
    let split : range_with_len 0 n ≡ range_with_len 0 k ++ k ∷ back = ap (range_with_len 0) (sym e) ∙ range_at 0 k (n - k - 1) ∙ ap (λ x. range_with_len 0 k ++ x ∷ range_with_len (x + 1) (n - k - 1)) z in
    let all : flat_map f (range_with_len 0 n) ≡ f k ++ flat_map f back = ap (flat_map f) split ∙ flat_map-append f (range_with_len 0 k) (k ∷ back) ∙ ap (λ xs. xs ++ (f k ++ flat_map f back)) none in
    ap first_pair all ∙ first_before (f k) (flat_map f back) pair is

-- no first pair, no pair
pub none_first : (xs : List (ℕ × ℕ)) → first_pair xs ≡ None → xs ≡ []
unfolding first_pair
none_first [] e = refl
none_first (x ∷ xs) e = absurd (none_is_not_some x (sym e))

-- a pair that shares a root is put behind the others
pub pair_taken : (h : RunHeader) (a k b : ℕ) (before items : List (ℕ × ℕ)) → b ≡ k → items ≡ before ++ flat_map (pair_of h a) (range_with_len 0 k) → true ≡ share_root h a b → items ++ (a, b) ∷ [] ≡ before ++ flat_map (pair_of h a) (range_with_len 0 (k + 1))
pair_taken h a k b before items is so shares =
    let here : pair_of h a k ≡ (a, b) ∷ [] = rw (sym is, sym shares) refl in
    ap (λ xs. xs ++ (a, b) ∷ []) so ∙ append_assoc before (flat_map (pair_of h a) (range_with_len 0 k)) ((a, b) ∷ [])
    ∙ ap (λ xs. before ++ xs) (ap (λ xs. flat_map (pair_of h a) (range_with_len 0 k) ++ xs) (sym here) ∙ sym (one_more (pair_of h a) k))

-- a pair that shares no root is passed
pub pair_passed : (h : RunHeader) (a k b : ℕ) (before items : List (ℕ × ℕ)) → b ≡ k → items ≡ before ++ flat_map (pair_of h a) (range_with_len 0 k) → false ≡ share_root h a b → items ≡ before ++ flat_map (pair_of h a) (range_with_len 0 (k + 1))
pair_passed h a k b before items is so differs =
    let here : pair_of h a k ≡ [] = rw (sym is, sym differs) refl in
    so ∙ ap (λ xs. before ++ xs) (sym (append-nil (flat_map (pair_of h a) (range_with_len 0 k))) ∙ ap (λ xs. flat_map (pair_of h a) (range_with_len 0 k) ++ xs) (sym here) ∙ sym (one_more (pair_of h a) k))

-- the first pair of a general and of this one
pub pair_first : (h : RunHeader) (a k b : ℕ) → b ≡ k → true ≡ share_root h a b → first_pair (pair_of h a k) ≡ Some (a, b)
unfolding first_pair
pair_first h a k b is shares = rw (sym is, sym shares) refl

-- where neither the numbers before k nor k gives a pair, none up to k does
pub none_more : (f : ℕ → List (ℕ × ℕ)) (k b : ℕ) → b ≡ k → flat_map f (range_with_len 0 k) ≡ [] → first_pair (f b) ≡ None → flat_map f (range_with_len 0 (k + 1)) ≡ []
none_more f k b is none e = one_more f k ∙ ap (λ xs. xs ++ f k) none ∙ ap f (sym is) ∙ none_first (f b) e

pub pair_none : (h : RunHeader) (a b : ℕ) → false ≡ share_root h a b → first_pair (pair_of h a b) ≡ None
unfolding first_pair
pair_none h a b differs = rw (sym differs) refl

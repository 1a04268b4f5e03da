-- One more place of a row, and one more row.
use Rattle.std.proofs.Common.{◌≡◌, ℕ, zero, suc, ◌+◌, ◌-◌, ◌≤◌, Bool, true, false, cond, List, [], ◌∷◌, ◌++◌, map, filter, refl, sym, ap, ◌∙◌, arith, append_assoc, add-zero, zero-add}
use Rattle.std.specs.List.{flat_map, range_with_len}
use Rattle.std.proofs.lemmas.List.{append-nil}
use Rattle.std.proofs.lemmas.List.FromFn.{filter_of_map_range_with_len_more}
use Rattle.std.proofs.lemmas.List.Elements.{filter-append}
use Rattle.std.proofs.lemmas.Grind.{flat_map-append}
use Rattle.gen_net.specs.Edges.{row}

one_more : (P : ℕ × ℕ → Bool) (a b : ℕ) → a + 1 ≤ b → filter P (map (λ c. (a, c)) (range_with_len (a + 1) ((b + 1) - (a + 1)))) ≡ filter P (map (λ c. (a, c)) (range_with_len (a + 1) (b - (a + 1)))) ++ cond (P (a, b)) ((a, b) ∷ []) []
one_more P a b le =
    let k : (b + 1) - (a + 1) ≡ (b - (a + 1)) + 1 = omega arith in
    let f : ℕ → ℕ × ℕ = λ c. (a, c) in
    rw k (filter_of_map_range_with_len_more P f (a + 1) (b - (a + 1)) b (omega arith))

pub place_taken : (P : ℕ × ℕ → Bool) (a b : ℕ) (old now new : List (ℕ × ℕ)) → a + 1 ≤ b → now ≡ old ++ filter P (map (λ c. (a, c)) (range_with_len (a + 1) (b - (a + 1)))) → P (a, b) ≡ true → new ≡ now ++ (a, b) ∷ []
    → new ≡ old ++ filter P (map (λ c. (a, c)) (range_with_len (a + 1) ((b + 1) - (a + 1))))
place_taken P a b old now new le so_far holds grown = rw (one_more P a b le, holds, ← append_assoc, ← so_far) grown

pub place_passed : (P : ℕ × ℕ → Bool) (a b : ℕ) (old now : List (ℕ × ℕ)) → a + 1 ≤ b → now ≡ old ++ filter P (map (λ c. (a, c)) (range_with_len (a + 1) (b - (a + 1)))) → P (a, b) ≡ false
    → now ≡ old ++ filter P (map (λ c. (a, c)) (range_with_len (a + 1) ((b + 1) - (a + 1))))
place_passed P a b old now le so_far fails = rw (one_more P a b le, fails, append-nil) so_far

range_more : (a k : ℕ) → range_with_len a (k + 1) ≡ range_with_len a k ++ (a + k) ∷ []
range_more a zero = rw add-zero refl
range_more a (suc k) =
    let longer : suc k + 1 ≡ suc (k + 1) = omega arith in
    let last : (a + 1) + k ≡ a + suc k = omega arith in
    ap (range_with_len a) longer ∙ ap (λ r. a ∷ r) (range_more (a + 1) k) ∙ ap (λ x. a ∷ (range_with_len (a + 1) k ++ x ∷ [])) last

pub row_done : (P : ℕ × ℕ → Bool) (n a : ℕ) (now new : List (ℕ × ℕ)) → now ≡ filter P (flat_map (row n) (range_with_len 0 a)) → new ≡ now ++ filter P (row n a) → new ≡ filter P (flat_map (row n) (range_with_len 0 (a + 1)))
row_done P n a now new so_far grown =
    rw (range_more 0 a, zero-add, flat_map-append (row n) (range_with_len 0 a) (a ∷ []), filter-append, ← so_far) (grown ∙ ap (λ r. now ++ filter P r) (sym (append-nil (row n a))))

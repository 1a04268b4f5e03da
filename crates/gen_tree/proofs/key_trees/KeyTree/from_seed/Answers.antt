use Rattle.std.proofs.Common.{◌≡◌, ℕ, suc, ◌<◌, ◌+◌, ◌*◌, ◌++◌, List, [], ◌∷◌, length, slice_index_or, append_assoc, sym, ap, ◌∙◌, arith}
use Rattle.std.proofs.lemmas.List.{append-nil}
use Rattle.sha_lanes.specs.declared.words.TheConstants.{LANES}
use Rattle.gen_types.specs.declared.heights.TreeHeight.{TreeHeight}
use Rattle.gen_ots.specs.OneTime.{key_leaf_value}
use Rattle.gen_tree.specs.Rings.{leaf_values}
use Rattle.gen_tree.proofs.Folding.{leaf_values-suc}
use Rattle.gen_tree.proofs.key_trees.KeyTree.from_seed.Goals as goal

-- the value of a leaf
abbrev value_of : List ℕ → TreeHeight → ℕ → List ℕ
value_of seed height leaf = key_leaf_value (record { seed = seed; height = height; leaf = leaf })

-- several leaves more, by what was appended
some_more : (seed : List ℕ) (height : TreeHeight) (n : ℕ) (values : List (List ℕ))
    → ((j : ℕ) → j < length values → slice_index_or values j [] ≡ value_of seed height (n + j))
    → leaf_values seed height n ++ values ≡ leaf_values seed height (n + length values)
some_more seed height n [] each =
    let same : n + 0 ≡ n = omega arith in
    rw same (append-nil (leaf_values seed height n))
some_more seed height n (v ∷ values) each =
    let first : n + 0 ≡ n = omega arith in
    let here : v ≡ value_of seed height n = rw first at (each 0 (omega arith)) in
    let all : n + suc (length values) ≡ suc n + length values = omega arith in
    let front : leaf_values seed height (suc n) ≡ leaf_values seed height n ++ v ∷ [] =
    leaf_values-suc seed height n ∙ ap (λ (x : List ℕ). leaf_values seed height n ++ x ∷ []) (sym here) in
    let others = some_more seed height (suc n) values (λ j below.
    let next : n + suc j ≡ suc n + j = omega arith in
    rw next at (each (suc j) (omega arith))) in
    rw all (sym (append_assoc (leaf_values seed height n) (v ∷ []) values)
    ∙ ap (λ (x : List (List ℕ)). x ++ values) (sym front) ∙ others)

pub turns-init : goal.turns-init
unfolding leaf_values
turns-init c = c.in_ok-leaves.ensures.items

pub turns-preserved : goal.turns-preserved
turns-preserved c =
    let seed = c.args.seed.now in
    let height = c.args.height in
    let n = LANES * c.turns.turn in
    let values = c.leaf_values-values.result in
    let wide : length values ≡ LANES = omega (arith, c.leaf_values-values.type_inv) in
    let next : n + length values ≡ LANES * (c.turns.turn + 1) = omega (arith, wide) in
    let more = some_more seed height n values (λ j below. c.leaf_values-values.ensures j (omega (arith, wide))) in
    c.in_ok-extend_from_slice.ensures.items ∙ ap (λ (x : List (List ℕ)). x ++ values) c.turns.invariant ∙ more ∙ ap (leaf_values seed height) next

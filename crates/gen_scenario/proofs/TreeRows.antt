-- The trees of generals, one after another, and their roots.
use Rattle.std.proofs.Common.{◌≡◌, ◌+◌, ◌∙◌, ℕ, List, [], ◌∷◌, ◌++◌, sym, ap, map, length, zero-add}
use Rattle.std.specs.List.{range_with_len}
use Rattle.std.proofs.lemmas.List.{map-append}
use Rattle.std.proofs.lemmas.List.FromFn.{length-map-range_with_len}
use Rattle.std.proofs.lemmas.Simd.{map-map}
use Rattle.gen_types.specs.declared.heights.TreeHeight.{TreeHeight}
use Rattle.gen_types.specs.Members.{range_more}
use Rattle.gen_tree.specs.Rings.{KeyTree, ring_root, seed_of}
use Rattle.gen_scenario.specs.Trees.{general_tree, root_over}

-- one more number of a range from 0, mapped
pub map_range_more : {X : Type 0} (f : ℕ → X) (n : ℕ) → map f (range_with_len 0 (n + 1)) ≡ map f (range_with_len 0 n) ++ f n ∷ []
map_range_more f n =
    ap (map f) (range_more 0 n) ∙ map-append f (range_with_len 0 n) ((0 + n) ∷ [])
    ∙ ap (λ k. map f (range_with_len 0 n) ++ f k ∷ []) (zero-add n)

-- the tree of one general more
pub trees_more : {X : Type 0} (f : ℕ → X) (n : ℕ) (old new : List X) (x : X) → old ≡ map f (range_with_len 0 n) → new ≡ old ++ x ∷ [] → x ≡ f n → new ≡ map f (range_with_len 0 (n + 1))
trees_more {X} f n old new x before pushed is =
    pushed ∙ ap (λ (xs : List X). xs ++ x ∷ []) before ∙ ap (λ (y : X). map f (range_with_len 0 n) ++ y ∷ []) is ∙ sym (map_range_more f n)

-- the roots of these trees
pub roots_are : (master : List ℕ) (height : TreeHeight) (n : ℕ) (trees : List KeyTree) (roots : List (List ℕ)) → trees ≡ map (general_tree master height) (range_with_len 0 n) → roots ≡ map root_over trees → roots ≡ map (λ g. ring_root (seed_of master g) height) (range_with_len 0 n)
roots_are master height n trees roots made is =
    is ∙ ap (map root_over) made ∙ map-map root_over (general_tree master height) (range_with_len 0 n)

pub roots_count : (master : List ℕ) (height : TreeHeight) (n : ℕ) (trees : List KeyTree) (roots : List (List ℕ)) → trees ≡ map (general_tree master height) (range_with_len 0 n) → roots ≡ map root_over trees → length roots ≡ n
roots_count master height n trees roots made is =
    ap length (roots_are master height n trees roots made is) ∙ length-map-range_with_len (λ g. ring_root (seed_of master g) height) 0 n

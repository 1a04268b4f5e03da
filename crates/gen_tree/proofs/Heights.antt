-- What holds of both heights of trees.
use Rattle.std.proofs.Common.{◌≡◌, ◌≤◌, ◌^◌, ◌++◌, ℕ, List, length, take, refl, arith, length-append}
use Rattle.std.proofs.lemmas.List.{length-take-le}
use Rattle.gen_types.specs.declared.heights.TreeHeight.{TreeHeight}
use Rattle.gen_types.specs.declared.heights.TreeHeight.TheVariants.{Four, Six}
use Rattle.gen_types.specs.Heights.{levels_of, leaves_of}
use Rattle.gen_ots.specs.Sizes.{ots_length}
use Rattle.gen_tree.specs.Sizes.{signature_length, siblings_length, most_siblings_length}

pub leaves_pow : (height : TreeHeight) → leaves_of height ≡ 2 ^ levels_of height
leaves_pow Four = refl
leaves_pow Six = refl

pub few_levels : (height : TreeHeight) → levels_of height ≤ 6
few_levels Four = omega arith
few_levels Six = omega arith

-- a signature that keeps its siblings in the first bytes of a list has the length of its height
pub length-parts : (height : TreeHeight) (pairs siblings : List ℕ) → length pairs ≡ ots_length → length siblings ≡ most_siblings_length
    → length (pairs ++ take (siblings_length height) siblings) ≡ signature_length height
length-parts height pairs siblings one two =
    let few = few_levels height in
    let kept = length-take-le (siblings_length height) siblings (omega (arith, few, two)) in
    omega (arith, length-append pairs (take (siblings_length height) siblings), one, kept)

-- Files with the numbers of their nodes.
use Rattle.std.proofs.Common.{◌≡◌, ℕ, ◌%◌, true, List, [], ◌∷◌, map, refl, arith}
use Rattle.std.proofs.lemmas.Bool.{ltb-true, and_parts}
use Rattle.std.specs.Prelude.{nat_lt}
use Rattle.sm_embed.specs.Systems.{are_nodes, given_file}
use Rattle.sm_embed.specs.declared.systems.SmRoots.{SmRoots}

-- a file whose node is taken among 16
abbrev pub taken_file : SmRoots → ℕ × List ℕ
taken_file f = (f.node % 16, f.roots.now)

pub same_files : (files : List SmRoots) → are_nodes files ≡ true → map taken_file files ≡ map given_file files
same_files [] known = refl
same_files (f ∷ fs) known =
    let parts = and_parts (nat_lt f.node 16) (are_nodes fs) known in
    let is : f.node % 16 ≡ f.node = omega (arith, ltb-true f.node 16 parts.0) in
    λ i. (is i, f.roots.now) ∷ same_files fs parts.1 i

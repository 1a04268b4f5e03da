-- The trees of the keys with which the generals of a scenario sign.
use Rattle.std.specs.Prelude.{ℕ, List, map}
use Rattle.std.specs.List.{range_with_len}
use Rattle.gen_types.specs.declared.heights.TreeHeight.{TreeHeight}
use Rattle.gen_tree.specs.Rings.{KeyTree, ring_root, seed_of}
use Rattle.gen_net.specs.Version.{height_in}
use Rattle.gen_scenario.specs.Scenario.{Scenario}

-- a general's tree of this height under a master seed
abbrev pub general_tree : List ℕ → TreeHeight → ℕ → KeyTree
general_tree master height g = record { seed = seed_of master g; height = height }

-- the trees of all generals of a scenario, in their order
abbrev pub trees_of : Scenario → List KeyTree
trees_of s = map (general_tree s.master (height_in s.version)) (range_with_len 0 s.net.generals)

-- the root of a tree
abbrev pub root_over : KeyTree → List ℕ
root_over tree = ring_root tree.seed tree.height

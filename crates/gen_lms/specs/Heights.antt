-- The parameter sets LMS_SHA256_M32_H5 to H25 (RFC 8554, section 5.1), by the height of the tree.
use Rattle.std.specs.Prelude.{ℕ, ◌^◌}
use Rattle.gen_lms.specs.declared.heights.LmsHeight.{LmsHeight}
use Rattle.gen_lms.specs.declared.heights.LmsHeight.TheVariants.{Five, Ten, Fifteen, Twenty, TwentyFive}

-- the number h of levels between a leaf and the root
abbrev pub levels_of : LmsHeight → ℕ
levels_of Five = 5
levels_of Ten = 10
levels_of Fifteen = 15
levels_of Twenty = 20
levels_of TwentyFive = 25

-- the number of leaves, 2^h
abbrev pub leaves_of : LmsHeight → ℕ
leaves_of height = 2 ^ levels_of height

-- the type code of the parameter set
abbrev pub tree_code : LmsHeight → ℕ
tree_code Five = 5
tree_code Ten = 6
tree_code Fifteen = 7
tree_code Twenty = 8
tree_code TwentyFive = 9

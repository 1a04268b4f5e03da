-- The public files of roots, and their one spelling in bytes.
use Rattle.std.specs.Prelude.{ℕ, ◌≡◌, ◌≤◌, ◌^◌, List, [], ◌∷◌, ◌++◌, length}
use Rattle.std.specs.Int.{w32, to_be_bytes}
use Rattle.std.specs.List.{flat_map, AllByRecursion}
use Rattle.gen_types.specs.declared.heights.TreeHeight.{TreeHeight}
use Rattle.gen_types.specs.declared.heights.TreeHeight.TheVariants.{Four, Six}
use Rattle.gen_identity.specs.Openings.{most_levels}
use Rattle.gen_identity.specs.Sets.{set_roots}
use Rattle.gen_enroll.specs.declared.heads.RootsHead.{RootsHead}

-- what a file of roots says: the height of the tree of each set, the number of levels, and the root of each
-- set, set 0 first
pub record RootFile : Type 0 where
  pub height : TreeHeight
  pub levels : ℕ
  pub roots : List (List ℕ)

-- the number of bytes of a root
abbrev pub root_length : ℕ
root_length = 32

-- each root has 32 bytes
abbrev pub AreWide : List (List ℕ) → Type 0
AreWide roots = AllByRecursion (λ root. length root ≡ root_length) roots

-- what every file of roots keeps: it has at most 20 levels, and 2 to the power of them roots, of 32 bytes
-- each
pub record IsRootFile (f : RootFile) : Type 0 where
  pub few : f.levels ≤ most_levels
  pub count : length f.roots ≡ 2 ^ f.levels
  pub wide : AreWide f.roots

-- the head of a file: what stands before the roots
abbrev pub head_of : RootFile → RootsHead
head_of f = record { height = f.height; levels = f.levels }

-- the first four bytes as a number, big-endian: `SMI1` if the trees have height 4, `SMI2` if they have
-- height 6
abbrev pub root_mark : TreeHeight → ℕ
root_mark Four = 1397573937
root_mark Six = 1397573938

-- the mark, and the number of levels in one byte
abbrev pub head_spelling : RootsHead → List ℕ
head_spelling head = to_be_bytes w32 (root_mark head.height) ++ head.levels ∷ []

-- the roots, one behind another
abbrev pub roots_spelling : List (List ℕ) → List ℕ
roots_spelling roots = flat_map (λ root. root) roots

-- the one spelling of a file: its head, and its roots
abbrev pub file_spelling : RootFile → List ℕ
file_spelling f = head_spelling (head_of f) ++ roots_spelling f.roots

-- the file of all sets of a secret
abbrev pub file_of_secret : List ℕ → TreeHeight → ℕ → RootFile
file_of_secret secret height levels =
    record { height = height; levels = levels; roots = set_roots secret height (2 ^ levels) }

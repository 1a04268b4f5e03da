-- The root of a seed's tree of keys, as a text.
use Rattle.std.specs.Prelude.{ℕ, ◌==◌, List, [], ◌∷◌, ◌++◌, length, Result, Ok}
use Rattle.hex.specs.Hex.{encode_lower}
use Rattle.gen_types.specs.declared.heights.TreeHeight.{TreeHeight}
use Rattle.gen_types.specs.Reading.{◌>>=◌, check}
use Rattle.gen_tree.specs.Rings.{ring_root}
use Rattle.gen_prepare.specs.declared.seed_fault.SeedFault.{SeedFault}
use Rattle.gen_prepare.specs.declared.seed_fault.SeedFault.TheVariants.{SeedLength}

-- the seed that the bytes are: 32 bytes
abbrev pub seed_of : List ℕ → Result (List ℕ) SeedFault
seed_of bytes = do
  wide ← check (length bytes == 32) SeedLength
  Ok bytes

-- the line of the root of a seed's tree of this height: 64 hexadecimal digits of lower case
abbrev pub root_line : TreeHeight → List ℕ → List ℕ
root_line height seed = encode_lower (ring_root seed height) ++ 10 ∷ []

-- the line of the root of the seed that the bytes are, or their fault
unfoldable pub root_text : TreeHeight → List ℕ → Result (List ℕ) SeedFault
root_text height bytes = do
  seed ← seed_of bytes
  Ok (root_line height seed)

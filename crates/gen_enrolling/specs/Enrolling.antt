-- The file of roots of a secret, and the identity over the roots of a file.
use Rattle.std.specs.Prelude.{ℕ, ◌==◌, nat_le, List, [], ◌∷◌, ◌++◌, length, Result, Ok}
use Rattle.hex.specs.Hex.{encode_lower}
use Rattle.gen_types.specs.declared.heights.TreeHeight.{TreeHeight}
use Rattle.gen_types.specs.Reading.{◌>>=◌, check, map_fault}
use Rattle.gen_identity.specs.Openings.{most_levels}
use Rattle.gen_identity.specs.Sets.{identity_over}
use Rattle.gen_enroll.specs.declared.roots_fault.RootsFault.TheVariants.{TooManyLevels}
use Rattle.gen_enroll.specs.RootFiles.{RootFile, file_of_secret, file_spelling}
use Rattle.gen_enroll.specs.RootReading.{whole_file}
use Rattle.gen_prepare.specs.declared.seed_fault.SeedFault.TheVariants.{SeedLength}
use Rattle.gen_enrolling.specs.declared.enroll_fault.EnrollFault.{EnrollFault}
use Rattle.gen_enrolling.specs.declared.enroll_fault.EnrollFault.TheVariants.{Secret, Roots}

-- the file of roots of the secret that the bytes are, or their fault
unfoldable pub enrolled : TreeHeight → ℕ → List ℕ → Result (List ℕ) EnrollFault
enrolled height levels bytes = do
  wide ← check (length bytes == 32) (Secret SeedLength)
  few ← check (nat_le levels most_levels) (Roots TooManyLevels)
  Ok (file_spelling (file_of_secret bytes height levels))

-- the file of roots that the bytes are, or their first fault
abbrev pub roots_read : List ℕ → Result RootFile EnrollFault
roots_read bytes = map_fault Roots (whole_file bytes)

-- the line of the top of the identity over the roots that the bytes are: 64 hexadecimal digits of lower case
unfoldable pub identity_line : List ℕ → Result (List ℕ) EnrollFault
identity_line bytes = do
  file ← roots_read bytes
  Ok (encode_lower (identity_over file.roots file.levels).top ++ 10 ∷ [])

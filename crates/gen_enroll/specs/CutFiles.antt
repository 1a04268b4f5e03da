-- Files of roots that were cut behind the head.
use Rattle.std.specs.Prelude.{ℕ, ◌≡◌, ◌≤◌, ◌<◌, ◌+◌, ◌*◌, ◌/◌, ◌^◌, List, ◌++◌, length, Result, Ok, nat_le}
use Rattle.gen_types.specs.Reading.{◌>>=◌, check}
use Rattle.gen_identity.specs.Openings.{most_levels}
use Rattle.gen_enroll.specs.declared.heads.RootsHead.{RootsHead}
use Rattle.gen_enroll.specs.declared.roots_fault.RootsFault.{RootsFault}
use Rattle.gen_enroll.specs.declared.roots_fault.RootsFault.TheVariants as faults
use Rattle.gen_enroll.specs.RootFiles.{AreWide, root_length, head_spelling, roots_spelling}
use Rattle.gen_enroll.specs.RootReading.{head_at}

-- The bytes are a head, so many whole roots, and a part of the next one, which isn't whole. They are no more
-- than the file of the head has.
pub record IsCutFile (bytes : List ℕ) (head : RootsHead) (whole : ℕ) : Type 0 where
  pub few : head.levels ≤ most_levels
  pub roots : List (List ℕ)
  pub part : List ℕ
  pub parts : bytes ≡ head_spelling head ++ (roots_spelling roots ++ part)
  pub count : length roots ≡ whole
  pub wide : AreWide roots
  pub short : length part < root_length
  pub room : root_length * whole + length part ≤ root_length * 2 ^ head.levels

-- the head of such a file, and the number of its whole roots
unfoldable pub cut_file : List ℕ → Result (RootsHead × ℕ) RootsFault
cut_file bytes = do
  head ← head_at bytes
  within ← check (nat_le (length head.1) (root_length * 2 ^ head.0.levels)) faults.LeftOver
  Ok (head.0, length head.1 / root_length)

-- The path of a script line, read number by number from left to right. The rules for the whole path come
-- after its last number.
use Rattle.std.specs.Prelude.{ℕ, ◌-◌, ◌++◌, Bool, true, false, not, ◌&&◌, List, [], ◌∷◌, length, Option, Some, None, Result, Ok, nat_lt, ◌==◌, slice_get}
use Rattle.std.specs.List.{slice_split}
use Rattle.gen_types.specs.Ends.{is_among}
use Rattle.gen_types.specs.Reading.{◌>>=◌, check}
use Rattle.gen_net.specs.Network.{Network}
use Rattle.gen_script.specs.declared.fault.ScriptFault.{ScriptFault}
use Rattle.gen_script.specs.declared.fault.ScriptFault.TheVariants.{BadPath}
use Rattle.gen_script.specs.declared.path_fields.PathKind.{PathKind}
use Rattle.gen_script.specs.declared.path_fields.PathKind.TheVariants.{Whole, Added}
use Rattle.gen_script.specs.FieldReading.{number_in}

-- A whole path has 0 in its first place, and an added one has no 0.
abbrev pub fits_place : PathKind → List ℕ → ℕ → Bool
fits_place Whole [] g = g == 0
fits_place Whole (h ∷ front) g = true
fits_place Added front g = not (g == 0)

-- the number may stand behind front: it is a general's, it keeps the rule for 0, and front does not have it
abbrev pub may_follow : Network → PathKind → List ℕ → ℕ → Bool
may_follow net kind front g =
    nat_lt g net.generals && fits_place kind front g && not (is_among front g)

-- front with the number that these digits spell at its end
unfoldable pub longer_by : Network → PathKind → List ℕ → List ℕ → Result (List ℕ) ScriptFault
longer_by net kind front digits = do
  g ← number_in digits
  fits ← check (may_follow net kind front g) BadPath
  Ok (front ++ g ∷ [])

-- front with the numbers that these parts spell at its end
unfoldable pub numbers_in : Network → PathKind → List ℕ → List (List ℕ) → Result (List ℕ) ScriptFault
numbers_in net kind front [] = Ok front
numbers_in net kind front (digits ∷ more) = do
  longer ← longer_by net kind front digits
  numbers_in net kind longer more

-- the parts of a path's text, split at its commas
abbrev pub path_parts : List ℕ → List (List ℕ)
path_parts digits = slice_split (λ b. b == 44) digits

abbrev pub is_last : Option ℕ → ℕ → Bool
is_last None g = false
is_last (Some last) g = last == g

-- the last general of the path is g
abbrev pub ends_with : List ℕ → ℕ → Bool
ends_with path g = is_last (slice_get path (length path - 1)) g

-- A whole path has as many generals as the round's number, and an added one has fewer.
abbrev pub has_length : PathKind → ℕ → ℕ → Bool
has_length Whole round n = n == round
has_length Added round n = nat_lt n round

-- the path of a line of this round, which ends with me
unfoldable pub path_in : Network → ℕ → PathKind → ℕ → List ℕ → Result (List ℕ) ScriptFault
path_in net me kind round digits = do
  path ← numbers_in net kind [] (path_parts digits)
  ends ← check (ends_with path me && has_length kind round (length path)) BadPath
  Ok path

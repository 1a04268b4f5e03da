-- Which header a text is, line by line, or which fault comes first and in which line; and which header it
-- gives.
use Rattle.std.specs.Prelude.{ℕ, zero, suc, List, [], ◌∷◌, codes, Option, None, Some, Result, Ok, Err, if◌then◌else◌}
use Rattle.std.specs.Str.{bytes_eq}
use Rattle.hex.specs.Hex.{decode_sized}
use Rattle.gen_types.specs.Reading.{◌>>=◌, check, map_fault}
use Rattle.gen_net.specs.declared.version.Version.{Version}
use Rattle.gen_net.specs.Header.{RunHeader}
use Rattle.gen_text.specs.declared.fault.LineFault.TheVariants.{Shape, Extra}
use Rattle.gen_text.specs.declared.fault.ScenarioFault.{ScenarioFault}
use Rattle.gen_text.specs.Cursor.{Cursor, start_of}
use Rattle.gen_text.specs.CursorReading.{next_line, is_over}
use Rattle.gen_text.specs.KeysReading.{known_seed}
use Rattle.gen_text.specs.LineReading.{fault_at}
use Rattle.gen_plan.specs.EqualRoots.{equal_roots, first_pair}
use Rattle.gen_prepare.specs.declared.header_fault.HeaderTextFault.{HeaderTextFault}
use Rattle.gen_prepare.specs.declared.header_fault.HeaderTextFault.TheVariants.{Text, EqualRoots}
use Rattle.gen_prepare.specs.NetText.{net_at}

-- the root of the line k: Shape if it is no line of a root, or BadSeed if its digits are not 64 hexadecimal
-- ones
unfoldable pub root_in : ℕ → List (List ℕ) → Result (List ℕ) ScenarioFault
root_in k (w ∷ digits ∷ []) =
    if bytes_eq w (codes "root") then known_seed k (decode_sized digits 32) else Err (fault_at Shape k)
root_in k _ = Err (fault_at Shape k)

-- the root of the line at a cursor, and the cursor after it
unfoldable pub root_at : Cursor → Result (List ℕ × Cursor) ScenarioFault
root_at c = do
  l ← next_line c
  root ← root_in l.0.number l.0.fields
  Ok (root, l.1)

-- the roots of this many lines from a cursor on, and the cursor after them
unfoldable pub roots_at : ℕ → Cursor → Result (List (List ℕ) × Cursor) ScenarioFault
roots_at zero c = Ok ([], c)
roots_at (suc n) c = do
  root ← root_at c
  others ← roots_at n root.1
  Ok (root.0 ∷ others.0, others.1)

-- the line k must be `end`
unfoldable pub last_in : ℕ → List (List ℕ) → Result (Unit {0}) ScenarioFault
last_in k (w ∷ []) = check (bytes_eq w (codes "end")) (fault_at Shape k)
last_in k _ = Err (fault_at Shape k)

-- the cursor after the line `end`
unfoldable pub last_at : Cursor → Result Cursor ScenarioFault
last_at c = do
  l ← next_line c
  ended ← last_in l.0.number l.0.fields
  Ok l.1

-- the header of this version that a text is, or the text's first fault
unfoldable pub header_of_text : Version → List ℕ → Result RunHeader ScenarioFault
header_of_text version text = do
  net ← net_at (start_of text)
  roots ← roots_at net.0.generals net.1
  after ← last_at roots.1
  over ← check (is_over after) (fault_at Extra after.line)
  Ok (record { version = version; network = net.0; roots = roots.0 })

-- the header, unless two of its generals have the same root
abbrev pub unless_shared : RunHeader → Option (ℕ × ℕ) → Result RunHeader HeaderTextFault
unless_shared h None = Ok h
unless_shared h (Some pair) = Err (EqualRoots pair.0 pair.1)

-- the header of this version that a text gives; or the text's first fault; or the least pair of generals with
-- the same root
unfoldable pub header_given : Version → List ℕ → Result RunHeader HeaderTextFault
header_given version text = do
  h ← map_fault Text (header_of_text version text)
  unless_shared h (first_pair (equal_roots h))

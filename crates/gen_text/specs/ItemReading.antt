-- A line after those of the keys: what it is, or its first fault.
use Rattle.std.specs.Prelude.{ℕ, Bool, true, false, ◌&&◌, List, [], ◌∷◌, length, codes, Option, Some, None, Result, Ok, Err, nat_lt, ◌==◌, if◌then◌else◌}
use Rattle.std.specs.Str.{bytes_eq}
use Rattle.gen_types.specs.Reading.{◌>>=◌, check, map_fault}
use Rattle.gen_net.specs.Network.{Network}
use Rattle.gen_script.specs.declared.lines.ScriptLine.{ScriptLine}
use Rattle.gen_script.specs.LineReading.{script_line_of}
use Rattle.gen_text.specs.declared.fault.LineFault.TheVariants as faults
use Rattle.gen_text.specs.declared.fault.ScenarioFault.{ScenarioFault}
use Rattle.gen_text.specs.declared.items.Item.{Item}
use Rattle.gen_text.specs.declared.items.Item.TheVariants.{Begin, Say, End}
use Rattle.gen_text.specs.Cursor.{Line}
use Rattle.gen_text.specs.LineReading.{fault_at, number_behind}

-- the first field is this word
abbrev pub begins_with : List ℕ → List (List ℕ) → Bool
begins_with word [] = false
begins_with word (w ∷ more) = bytes_eq w word

-- the number g is greater than that of the general of the block before, if there is one
abbrev pub ascends : Option ℕ → ℕ → Bool
ascends None g = true
ascends (Some last) g = nat_lt last g

-- the general with whose script the line k begins, after the block of `last`
unfoldable pub general_in : Network → Option ℕ → ℕ → List (List ℕ) → Result ℕ ScenarioFault
general_in net last k fs = do
  g ← number_behind k (codes "script") fs
  fits ← check (nat_lt g net.generals && ascends last g) (fault_at faults.BadTraitor k)
  Ok g

-- the script line that these bytes of the line k are, in the block of a general
abbrev pub said_in : Network → Option ℕ → ℕ → List ℕ → Result ScriptLine ScenarioFault
said_in net None k line = Err (fault_at faults.Shape k)
said_in net (Some g) k line = map_fault (λ f. fault_at (faults.Script f) k) (script_line_of net g line)

-- what the line is, in the block of the general `block`, or before the first block
unfoldable pub item_in : Network → Option ℕ → Line → Result Item ScenarioFault
item_in net block l =
    if begins_with (codes "end") l.fields then (do
      alone ← check (length l.fields == 1) (fault_at faults.Shape l.number)
      Ok End)
    else (if begins_with (codes "script") l.fields then (do
      g ← general_in net block l.number l.fields
      Ok (Begin g))
    else (do
      said ← said_in net block l.number l.bytes
      Ok (Say said)))

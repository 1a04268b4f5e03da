-- Which scenario a text is, line by line, or which fault comes first and in which line.
use Rattle.std.specs.Prelude.{ℕ, List, [], ◌∷◌, codes, Option, Some, None, Result, Ok, Err, if◌then◌else◌}
use Rattle.std.specs.Str.{bytes_eq}
use Rattle.gen_types.specs.Reading.{◌>>=◌, check}
use Rattle.gen_scenario.specs.Scenario.{Plain, Scenario, scripted}
use Rattle.gen_text.specs.declared.fault.LineFault.TheVariants.{Shape, Unseeded, Extra}
use Rattle.gen_text.specs.declared.fault.ScenarioFault.{ScenarioFault}
use Rattle.gen_text.specs.declared.scenario_text.ScenarioText.{ScenarioText}
use Rattle.gen_text.specs.declared.scenario_text.ScenarioText.TheVariants as texts
use Rattle.gen_text.specs.Cursor.{Cursor, start_of}
use Rattle.gen_text.specs.LineReading.{fault_at}
use Rattle.gen_text.specs.CursorReading.{next_line, is_over}
use Rattle.gen_text.specs.NumbersReading.{plain_at}
use Rattle.gen_text.specs.KeysReading.{seed_at, slot_at, version_with}
use Rattle.gen_text.specs.BlocksReading.{blocks_at, all_scripted}

-- Without a seed the line k must be `end`; a script may not begin there.
unfoldable pub end_in : ℕ → List (List ℕ) → Result (Unit {0}) ScenarioFault
end_in k (w ∷ []) = check (bytes_eq w (codes "end")) (fault_at Shape k)
end_in k (w ∷ x ∷ []) =
    if bytes_eq w (codes "script") then Err (fault_at Unseeded k) else Err (fault_at Shape k)
end_in k _ = Err (fault_at Shape k)

-- the cursor after the line `end`
unfoldable pub end_at : Cursor → Result Cursor ScenarioFault
end_at c = do
  l ← next_line c
  ended ← end_in l.0.number l.0.fields
  Ok l.1

-- the scenario with this network, order and seed whose other lines begin at a cursor, and the cursor after
-- its last line
unfoldable pub signed_at : Plain → List ℕ → Cursor → Result (Scenario × Cursor) ScenarioFault
signed_at plain master c = do
  slot ← slot_at c
  b ← blocks_at plain.net None slot.1.line slot.1.parts
  signed ← all_scripted (scripted b.scripts) b.paths
  Ok (
    record {
      version = version_with slot.0;
      net = plain.net;
      master = master;
      order = plain.order;
      scripts = b.scripts;
    },
    b.after,
  )

-- what a text with or without this seed says from a cursor on, and the cursor after its last line
unfoldable pub told_at : Plain → Option (List ℕ) → Cursor → Result (ScenarioText × Cursor) ScenarioFault
told_at plain None c = do
  after ← end_at c
  Ok (texts.Plain plain, after)
told_at plain (Some master) c = do
  s ← signed_at plain master c
  Ok (texts.Signed s.0, s.1)

-- the scenario of a text, or its first fault
unfoldable pub scenario_of : List ℕ → Result ScenarioText ScenarioFault
scenario_of text = do
  plain ← plain_at (start_of text)
  seed ← seed_at plain.1
  told ← told_at plain.0 seed.0 seed.1
  over ← check (is_over told.1) (fault_at Extra told.1.line)
  Ok told.0

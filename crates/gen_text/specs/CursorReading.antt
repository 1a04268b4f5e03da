-- Cursors in a text, and lines that are cut into fields.
use Rattle.std.specs.Prelude.{ℕ, ◌+◌, List, length, Bool, ◌==◌, Result, Ok}
use Rattle.std.specs.List.{join_with_byte}
use Rattle.gen_types.specs.Reading.{◌>>=◌}
use Rattle.gen_types.specs.Texts.{fields}
use Rattle.gen_text.specs.declared.fault.ScenarioFault.{ScenarioFault}
use Rattle.gen_text.specs.declared.cursor.Numbered.{Numbered}
use Rattle.gen_text.specs.Cursor.{Cursor, Line}
use Rattle.gen_text.specs.LineReading.{line_at, number_behind}

-- the line at a cursor, and the cursor after it
unfoldable pub next_line : Cursor → Result (Line × Cursor) ScenarioFault
next_line c = do
  l ← line_at c.line c.parts
  Ok (record { number = c.line; bytes = l.0; fields = fields l.0 }, record { line = c.line + 1; parts = l.1 })

-- the number behind a word in the line at a cursor, with the line's number, and the cursor after it
unfoldable pub numbered : List ℕ → Cursor → Result (Numbered × Cursor) ScenarioFault
numbered word c = do
  l ← next_line c
  n ← number_behind l.0.number word l.0.fields
  Ok (record { line = l.0.number; value = n }, l.1)

-- Nothing is left to be read.
abbrev pub is_over : Cursor → Bool
is_over c = length (join_with_byte 10 c.parts) == 0

-- Cursors in a text, and lines.
use Rattle.std.specs.Prelude.{ℕ, List}
use Rattle.gen_text.specs.Text.{parts}

-- a cursor in a text: the number of a line, counted from 1, and the parts of the text from that line on
pub record Cursor : Type 0 where
  pub line : ℕ
  pub parts : List (List ℕ)

-- the cursor at the beginning of a text
abbrev pub start_of : List ℕ → Cursor
start_of text = record { line = 1; parts = parts text }

-- a line: its number, its bytes without the line feed, and its fields
pub record Line : Type 0 where
  pub number : ℕ
  pub bytes : List ℕ
  pub fields : List (List ℕ)

-- How far down things stand in a picture, in pixels from the top; generals are lines.
use Rattle.std.specs.Prelude.{ℕ, ◌+◌, ◌-◌, ◌*◌}

-- the heights of a general's line, of its name above it, of the notes below it, and of the words at its end
unfoldable pub row_of : ℕ → ℕ
row_of general = 96 + 56 * general

abbrev pub name_row : ℕ → ℕ
name_row general = row_of general - 8

abbrev pub note_row : ℕ → ℕ
note_row general = row_of general + 16

abbrev pub end_row : ℕ → ℕ
end_row general = row_of general + 5

-- the height half way between the lines of two generals, for words that stand there
unfoldable pub middle_of : ℕ → ℕ → ℕ
middle_of from to = 100 + 28 * (from + to)

-- the height of an order in the legend, which stands below the lines of this many generals, and the height of
-- its words
unfoldable pub legend_row : ℕ → ℕ → ℕ
legend_row generals order = row_of generals + 24 + 18 * order

abbrev pub legend_word_row : ℕ → ℕ → ℕ
legend_word_row generals order = legend_row generals order + 4

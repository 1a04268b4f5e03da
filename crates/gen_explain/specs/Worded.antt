-- A text with words: each line followed by what it means.
use Rattle.std.specs.Prelude.{ℕ, List, [], ◌∷◌, ◌++◌, Option, Some, option_map, codes, ◌==◌}
use Rattle.std.specs.List.{flat_map, slice_split}
use Rattle.std.specs.Option.{option_map_or, option_and_then}
use Rattle.gen_types.specs.Texts.{fields}
use Rattle.gen_explain.specs.Rows.{Row, row_named, sentence_by, row_of_line, filled, names_in}

-- a sentence in a line of its own, behind two spaces
abbrev pub indented : List ℕ → List ℕ
indented sentence = codes "  " ++ sentence ++ codes "\n"

-- the sentence of a name in a line of its own, or nothing where no row has this name
abbrev pub said : List Row → List ℕ → List ℕ
said rows name = option_map_or indented (sentence_by rows name) []

-- what a row says of a line: its sentence with the line's fields, and the sentences of the names in the line
unfoldable pub meaning_by : List Row → Row → List (List ℕ) → List ℕ
meaning_by rows row words =
    indented (filled row.form words row.sentence) ++ flat_map (said rows) (names_in row.form words)

-- what a line means: what the first row says whose form it fits, or nothing
unfoldable pub meaning : List Row → List (List ℕ) → List ℕ
meaning rows words = option_map_or (λ row. meaning_by rows row words) (row_of_line rows words) []

-- a line, and what it means
unfoldable pub worded_line : List Row → List ℕ → List ℕ
worded_line rows line = line ++ codes "\n" ++ meaning rows (fields line)

-- lines, each followed by what it means, and what stands behind the last line feed as it is
unfoldable pub worded_lines : List Row → List (List ℕ) → List ℕ
worded_lines rows [] = []
worded_lines rows (last ∷ []) = last
worded_lines rows (line ∷ next ∷ more) = worded_line rows line ++ worded_lines rows (next ∷ more)

-- a text, in which each line is followed by what it means
unfoldable pub worded : List Row → List ℕ → List ℕ
worded rows text = worded_lines rows (slice_split (λ b. b == 10) text)

-- the form of a row, and its sentence
unfoldable pub explained_row : Row → List ℕ
explained_row row = row.line ++ codes "\n" ++ indented row.sentence

-- the rows of these names, one after another, if each is a name
unfoldable pub each_explained : List Row → List (List ℕ) → Option (List ℕ)
each_explained rows [] = Some []
each_explained rows (name ∷ names) = option_and_then
    (λ row. option_map (λ text. explained_row row ++ text) (each_explained rows names)) (row_named rows name)

-- the row of a name, or else those of the names in its fields, if each is one
unfoldable pub explained_name : List Row → List ℕ → Option (List ℕ)
explained_name rows name =
    option_map_or (λ row. Some (explained_row row)) (row_named rows name) (each_explained rows (fields name))

-- the name of a row, a line of its own
abbrev pub name_line : Row → List ℕ
name_line row = row.name ++ codes "\n"

-- the names of rows, a line each
unfoldable pub names_listed : List Row → List ℕ
names_listed rows = flat_map name_line rows

-- what a name means; the empty name asks for the names of all rows
unfoldable pub explained : List Row → List ℕ → Option (List ℕ)
explained rows [] = Some (names_listed rows)
explained rows (letter ∷ more) = explained_name rows (letter ∷ more)

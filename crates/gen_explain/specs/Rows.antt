-- Rows of a table of words, and how a line is matched with them.
use Rattle.std.specs.Prelude.{ℕ, ◌==◌, Bool, true, false, ◌&&◌, ◌||◌, List, [], ◌∷◌, Option, Some, None, nat_le, option_map, unwrap_or, find, codes, if◌then◌else◌}
use Rattle.std.specs.List.{flat_map, slice_split}
use Rattle.std.specs.Str.{bytes_eq}
use Rattle.gen_types.specs.Texts.{fields}

-- a name, the line that it stands in as a form, the fields of this form, and a sentence
pub record Row : Type 0 where
  pub name : List ℕ
  pub line : List ℕ
  pub form : List (List ℕ)
  pub sentence : List ℕ

-- the row of three parts of a line: a name, a form and a sentence
abbrev pub row_of_parts : List (List ℕ) → List Row
row_of_parts [] = []
row_of_parts (name ∷ []) = []
row_of_parts (name ∷ line ∷ []) = []
row_of_parts (name ∷ line ∷ sentence ∷ []) =
    record { name = name; line = line; form = fields line; sentence = sentence } ∷ []
row_of_parts (name ∷ line ∷ sentence ∷ other ∷ more) = []

-- the row that a line of a table has: name, form and sentence, parted by `|`; another line has none
unfoldable pub row_in : List ℕ → List Row
row_in line = row_of_parts (slice_split (λ b. b == 124) line)

-- the rows that a table has in its lines
unfoldable pub rows_in : List ℕ → List Row
rows_in table = flat_map row_in (slice_split (λ b. b == 10) table)

-- the first row of this name
abbrev pub row_named : List Row → List ℕ → Option Row
row_named rows name = find (λ r. bytes_eq r.name name) rows

-- the sentence of the first row of this name
unfoldable pub sentence_by : List Row → List ℕ → Option (List ℕ)
sentence_by rows name = option_map (λ r. r.sentence) (row_named rows name)

-- a capital letter alone is a field of a form for which any field may stand
abbrev pub is_letter : List ℕ → Bool
is_letter [] = false
is_letter (c ∷ []) = nat_le 65 c && nat_le c 90
is_letter (c ∷ d ∷ more) = false

-- `NAMES` is a field of a form for which any field and all behind it may stand
abbrev pub is_names : List ℕ → Bool
is_names field = bytes_eq field (codes "NAMES")

-- a field of a form lets this field stand for it
abbrev pub allows : List ℕ → List ℕ → Bool
allows field word = is_letter field || bytes_eq field word

-- the fields of a line fit those of a form, one by one
unfoldable pub fits : List (List ℕ) → List (List ℕ) → Bool
fits [] [] = true
fits [] (word ∷ words) = false
fits (field ∷ form) [] = false
fits (field ∷ form) (word ∷ words) = is_names field || (allows field word && fits form words)

-- the first row whose form the fields of a line fit
abbrev pub row_of_line : List Row → List (List ℕ) → Option Row
row_of_line rows words = find (λ r. fits r.form words) rows

-- the field of a line that stands where the form has this letter
unfoldable pub field_for : List (List ℕ) → List (List ℕ) → ℕ → Option (List ℕ)
field_for [] words letter = None
field_for (field ∷ form) [] letter = None
field_for (field ∷ form) (word ∷ words) letter =
    if bytes_eq field (letter ∷ []) then Some word else field_for form words letter

-- a sentence in which the field of the line stands for each letter of the form
abbrev pub filled : List (List ℕ) → List (List ℕ) → List ℕ → List ℕ
filled form words sentence = flat_map (λ c. unwrap_or (field_for form words c) (c ∷ [])) sentence

-- the fields of a line that stand for `NAMES`
unfoldable pub names_in : List (List ℕ) → List (List ℕ) → List (List ℕ)
names_in [] words = []
names_in (field ∷ form) [] = []
names_in (field ∷ form) (word ∷ words) = if is_names field then word ∷ words else names_in form words

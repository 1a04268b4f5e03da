-- Lines of JSON.
use Rattle.std.specs.Prelude.{ℕ, ◌≡◌, List, ◌++◌, codes, Some}
use Rattle.serde_json.specs.Data.{Data}
use Rattle.serde_json.specs.Read.{read}
use Rattle.serde_json.specs.Written.{compact_text}

-- the text of a value without spaces, and a line feed
abbrev pub json_line : Data → List ℕ
json_line d = compact_text d ++ codes "\n"

-- the bytes are a text and a line feed, and a reader of JSON reads the text as this value
pub record ReadsAs (bytes : List ℕ) (d : Data) : Type 0 where
  pub text : List ℕ
  pub line : bytes ≡ text ++ codes "\n"
  pub value : read text ≡ Some d

-- bytes that read as two values read as one
abbrev pub OneValueOfLine : Type 0
OneValueOfLine = (bytes : List ℕ) (d e : Data) → ReadsAs bytes d → ReadsAs bytes e → d ≡ e

-- What a text of several lines of JSON says.
use Rattle.std.specs.Prelude.{ℕ, ◌≡◌, ◌<◌, ◌^◌, List, map, false}
use Rattle.std.specs.List.{All, flat_map}
use Rattle.serde_json.specs.Data.{Num, unsigned, negative, float, Data, null, boolean, number, string, array, object}
use Rattle.serde_json.specs.Data.{Items, no_items, item, Members, no_members, member}
use Rattle.serde_json.specs.Written.{compact_text, has_float}
use Rattle.gen_json.specs.Line.{json_line}

-- The text is the lines of these values, none of which has a float.
pub record AreLines (text : List ℕ) (values : List Data) : Type 0 where
  pub plain : All (λ d. has_float d ≡ false) values
  pub lines : text ≡ flat_map json_line values

-- the number is whole, not negative, and below 2^64
abbrev pub IsWhole : Num → Type 0
IsWhole (unsigned n) = n < 2 ^ 64
IsWhole (negative z) = ⊥
IsWhole (float x) = ⊥

-- each number of the value is such a number
abbrev mutual
  pub HasWhole : Data → Type 0
  HasWhole null = Unit {0}
  HasWhole (boolean b) = Unit {0}
  HasWhole (number n) = IsWhole n
  HasWhole (string s) = Unit {0}
  HasWhole (array ds) = ItemsHaveWhole ds
  HasWhole (object ms) = MembersHaveWhole ms

  pub ItemsHaveWhole : Items → Type 0
  ItemsHaveWhole no_items = Unit {0}
  ItemsHaveWhole (item d ds) = HasWhole d × ItemsHaveWhole ds

  pub MembersHaveWhole : Members → Type 0
  MembersHaveWhole no_members = Unit {0}
  MembersHaveWhole (member k d ms) = HasWhole d × MembersHaveWhole ms

-- two lists of values whose lines are one text have the same texts, one by one
abbrev pub OneListOfTexts : Type 0
OneListOfTexts = (text : List ℕ) (values others : List Data)
    → AreLines text values → AreLines text others → map compact_text values ≡ map compact_text others

-- and if their numbers are whole and below 2^64, they are the same values
abbrev pub OneListOfValues : Type 0
OneListOfValues = (text : List ℕ) (values others : List Data)
    → AreLines text values → AreLines text others → All HasWhole values → All HasWhole others
    → values ≡ others

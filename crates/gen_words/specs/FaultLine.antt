-- The line that says what is wrong with the words.
use Rattle.std.specs.Prelude.{◌≡◌, ℕ, List, ◌++◌, codes}

-- The line ends by saying how to ask for help.
abbrev pub PointsAtHelp : List ℕ → Type 0
PointsAtHelp line = (front : List ℕ) × (line ≡ front ++ codes "; for more, try '--help'")

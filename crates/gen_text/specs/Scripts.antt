-- Which lines spell the scripts of a scenario, apart from how they are read.
use Rattle.std.specs.Prelude.{◌≡◌, ◌≤◌, ℕ, List, [], ◌∷◌, ◌++◌, length, codes}
use Rattle.gen_net.specs.Network.{Network}
use Rattle.gen_script.specs.declared.lines.ScriptLine.{ScriptLine}
use Rattle.gen_script.specs.Line.{SpellsLine}
use Rattle.gen_script.specs.Script.{Script}
use Rattle.gen_text.specs.Text.{longest_line}
use Rattle.gen_text.specs.Fields.{line_of, said}

-- The lines spell these lines of a script of g, one after another, and none is too long.
abbrev pub SpellsLines : Network → ℕ → List (List ℕ) → List ScriptLine → Type 0
SpellsLines net g [] [] = Unit {0}
SpellsLines net g (line ∷ lines) (it ∷ more) =
    SpellsLine net g line it × (length line ≤ longest_line) × SpellsLines net g lines more
SpellsLines net g _ _ = ⊥

-- The lines are the blocks of these scripts. Each block is a line that names the general, and then the lines
-- of its script.
abbrev pub SpellsScripts : Network → List (List ℕ) → List Script → Type 0
SpellsScripts net lines [] = lines ≡ []
SpellsScripts net lines (script ∷ others) =
    (block more : List (List ℕ)) × (lines ≡ line_of (said (codes "script") script.general) ∷ (block ++ more))
    × SpellsLines net script.general block script.lines × SpellsScripts net more others

-- The scripts of a text: what its lines say one after another, and whether the generals of all paths have
-- scripts.
use Rattle.std.specs.Prelude.{ℕ, ◌+◌, List, [], ◌∷◌, ◌++◌, Option, Some, None, Result, Ok, Err, if◌then◌else◌}
use Rattle.std.specs.List.{list_all}
use Rattle.gen_types.specs.Ends.{is_among}
use Rattle.gen_types.specs.Reading.{◌>>=◌}
use Rattle.gen_net.specs.Network.{Network}
use Rattle.gen_script.specs.declared.fault.ScriptFault.TheVariants.{BadPath}
use Rattle.gen_script.specs.declared.lines.ScriptLine.{ScriptLine}
use Rattle.gen_script.specs.NamedPath.{named_path}
use Rattle.gen_script.specs.Script.{Script}
use Rattle.gen_text.specs.declared.fault.LineFault.TheVariants as faults
use Rattle.gen_text.specs.declared.fault.ScenarioFault.{ScenarioFault}
use Rattle.gen_text.specs.declared.items.Item.{Item}
use Rattle.gen_text.specs.declared.items.Item.TheVariants.{Begin, Say, End}
use Rattle.gen_text.specs.declared.items.PathLine.{PathLine}
use Rattle.gen_text.specs.Cursor.{Cursor, Line}
use Rattle.gen_text.specs.LineReading.{fault_at}
use Rattle.gen_text.specs.CursorReading.{next_line}
use Rattle.gen_text.specs.ItemReading.{item_in}

-- What lines say from one in a block on. It is the rest of the lines of that block, the scripts of the blocks
-- after it, the paths that all these lines name, and the cursor after the last line.
pub record Blocks : Type 0 where
  pub lines : List ScriptLine
  pub scripts : List Script
  pub paths : List PathLine
  pub after : Cursor

-- the path that the line k names, if it names one
abbrev pub path_at : ℕ → Option (List ℕ) → List PathLine
path_at k None = []
path_at k (Some path) = record { line = k; path = path } ∷ []

-- the script of a block that ends, if one was open
abbrev pub closed : Option ℕ → List ScriptLine → List Script
closed None lines = []
closed (Some g) lines = record { general = g; lines = lines } ∷ []

-- what this line and the lines after it say
abbrev pub with_item : Item → Line × Cursor → Result Blocks ScenarioFault → Result Blocks ScenarioFault
with_item End l others = Ok (record { lines = []; scripts = []; paths = []; after = l.1 })
with_item (Begin g) l others = do
  b ← others
  Ok (record b { lines = []; scripts = closed (Some g) b.lines ++ b.scripts })
with_item (Say said) l others = do
  b ← others
  Ok (record b { lines = said ∷ b.lines; paths = path_at l.0.number (named_path said) ++ b.paths })

-- the general in whose block the next line stands
abbrev pub block_after : Option ℕ → Item → Option ℕ
block_after block (Begin g) = Some g
block_after block (Say said) = block
block_after block End = block

-- what the lines from k on say, up to the line `end`; or the first fault
unfoldable pub blocks_at : Network → Option ℕ → ℕ → List (List ℕ) → Result Blocks ScenarioFault
blocks_at net block k [] = Err (fault_at faults.Unfinished k)
blocks_at net block k (line ∷ more) = do
  l ← next_line (record { line = k; parts = line ∷ more })
  item ← item_in net block l.0
  with_item item l (blocks_at net (block_after block item) (k + 1) more)

-- the first line that names a path with a general that has no script, as a fault
unfoldable pub all_scripted : List ℕ → List PathLine → Result (Unit {0}) ScenarioFault
all_scripted traitors [] = Ok tt
all_scripted traitors (p ∷ more) =
    if list_all (is_among traitors) p.path then all_scripted traitors more
    else Err (fault_at (faults.Script BadPath) p.line)

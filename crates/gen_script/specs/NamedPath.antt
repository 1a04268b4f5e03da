-- The path that a script line names.
use Rattle.std.specs.Prelude.{ℕ, List, Option, Some, None}
use Rattle.gen_script.specs.declared.lines.ScriptLine.{ScriptLine}
use Rattle.gen_script.specs.declared.lines.ScriptLine.TheVariants.{Make, Pass, Bend, Raw, Hide, TwoHeads}

-- the path of a make line or a pass line
abbrev pub named_path : ScriptLine → Option (List ℕ)
named_path (Make round to order path) = Some path
named_path (Pass round to from order path) = Some path
named_path (Bend round to from order) = None
named_path (Raw round to parcel) = None
named_path (Hide round from order) = None
named_path TwoHeads = None

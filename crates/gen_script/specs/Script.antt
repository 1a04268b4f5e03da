-- Scripts of traitors.
use Rattle.std.specs.Prelude.{ℕ, List}
use Rattle.gen_script.specs.declared.lines.ScriptLine.{ScriptLine}

-- a traitor, and the lines of its script in their order
pub record Script : Type 0 where
  pub general : ℕ
  pub lines : List ScriptLine

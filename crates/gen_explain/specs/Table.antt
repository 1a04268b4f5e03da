-- The rows of this project's table.
use Rattle.std.specs.Prelude.{List}
use Rattle.gen_explain.specs.declared.table.TheConstants.{WORDS}
use Rattle.gen_explain.specs.Rows.{Row, rows_in}

unfoldable pub words : List Row
words = rows_in WORDS.now

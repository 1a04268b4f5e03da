-- What the code's rows show.
use Rattle.std.specs.Prelude.{map}
use Rattle.gen_explain.specs.declared.rows.Row.{Row as KeptRow}
use Rattle.gen_explain.specs.Rows.{Row}

-- a row as it is kept, as a row of a table
abbrev pub row_shown : KeptRow → Row
row_shown r = record {
  name = r.name.now;
  line = r.line.now;
  form = map (λ x. x.now) r.form.items;
  sentence = r.sentence.now;
}

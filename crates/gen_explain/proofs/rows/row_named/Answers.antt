use Rattle.std.specs.Str.{bytes_eq}
use Rattle.gen_explain.specs.Shown.{row_shown}
use Rattle.gen_explain.proofs.Found.{found_shown}
use Rattle.gen_explain.proofs.rows.row_named.Goals as goal

pub returns : goal.returns
returns c = found_shown (λ r. r.now) row_shown (λ r. bytes_eq r.name c.args.name.now) c.args.rows.now c.find_named.result c.find_named.ensures

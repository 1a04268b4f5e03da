use Rattle.std.proofs.Common.{map}
use Rattle.gen_explain.specs.Rows.{fits}
use Rattle.gen_explain.specs.Shown.{row_shown}
use Rattle.gen_explain.proofs.Found.{found_shown}
use Rattle.gen_explain.proofs.rows.row_of_line.Goals as goal

pub returns : goal.returns
returns c = found_shown (λ r. r.now) row_shown (λ r. fits r.form (map (λ x. x.now) c.args.words.now)) c.args.rows.now c.find_fitting.result c.find_fitting.ensures

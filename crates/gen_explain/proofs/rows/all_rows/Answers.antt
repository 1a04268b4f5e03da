use Rattle.gen_explain.specs.Table.{words}
use Rattle.gen_explain.proofs.rows.all_rows.Goals as goal

pub returns : goal.returns
unfolding words
returns c = c.split_rows.ensures

use Rattle.gen_async.proofs.RowsShown.{pair_row, pair_ends, triangle_row, triangle_two}
use Rattle.gen_async.proofs.laws.rows.Goals as goal

pub returns-clause-pair : goal.returns-clause-pair
returns-clause-pair c = pair_row

pub returns-clause-ends : goal.returns-clause-ends
returns-clause-ends c = pair_ends

pub returns-clause-triangle : goal.returns-clause-triangle
returns-clause-triangle c = triangle_row

pub returns-clause-roomy : goal.returns-clause-roomy
returns-clause-roomy c = triangle_two

use Rattle.gen_json.proofs.OneValue.{one_value}
use Rattle.gen_json.proofs.laws.one_value_of_line.Goals as goal

pub returns : goal.returns
returns c = one_value

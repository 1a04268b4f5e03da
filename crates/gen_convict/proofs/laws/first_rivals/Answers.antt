use Rattle.gen_convict.proofs.AcrossFound.{found_where_held, first_contradict, one_first_across}
use Rattle.gen_convict.proofs.AcrossRuns.{first_of_two}
use Rattle.gen_convict.proofs.laws.first_rivals.Goals as goal

pub returns : goal.returns
returns c = record { found = found_where_held; holds = first_contradict; one = one_first_across; runs = first_of_two }

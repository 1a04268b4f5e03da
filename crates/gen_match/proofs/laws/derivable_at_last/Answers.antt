use Rattle.gen_match.proofs.Sourcing.{derivable_at_last}
use Rattle.gen_match.proofs.laws.derivable_at_last.Goals as goal

pub returns : goal.returns
returns c = derivable_at_last

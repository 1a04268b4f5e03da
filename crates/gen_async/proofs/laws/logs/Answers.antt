use Rattle.gen_async.proofs.Standing.{log_law, stand_law}
use Rattle.gen_async.proofs.laws.logs.Goals as goal

pub returns : goal.returns
returns g c = record { begins = log_law; standing = stand_law }

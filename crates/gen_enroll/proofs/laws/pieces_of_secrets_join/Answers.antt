use Rattle.gen_enroll.proofs.Pieces.{roots_join}
use Rattle.gen_enroll.proofs.laws.pieces_of_secrets_join.Goals as goal

pub returns : goal.returns
returns c = roots_join

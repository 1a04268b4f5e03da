use Rattle.gen_lmots.proofs.Walked.{candidate-signature_of}
use Rattle.gen_lmots.proofs.keys.signature_stands_for_its_key.Goals as goal

pub returns : goal.returns
returns c = candidate-signature_of

use Rattle.gen_scenario.proofs.TraitorFrames.{no_raw_is_signed}
use Rattle.gen_scenario.proofs.laws.no_signature_is_forged.Goals as goal

pub returns : goal.returns
returns c = no_raw_is_signed

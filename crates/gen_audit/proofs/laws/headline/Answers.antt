use Rattle.gen_audit.proofs.Answering.{headline_holds}
use Rattle.gen_audit.proofs.laws.headline.Goals as goal

pub returns : goal.returns
returns c = headline_holds

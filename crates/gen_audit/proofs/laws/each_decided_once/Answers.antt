use Rattle.gen_audit.proofs.Deciders.{each_decided_once}
use Rattle.gen_audit.proofs.laws.each_decided_once.Goals as goal

pub returns : goal.returns
returns c = each_decided_once

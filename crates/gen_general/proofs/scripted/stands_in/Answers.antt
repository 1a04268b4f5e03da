use Rattle.std.proofs.Common.{sym}
use Rattle.gen_script.proofs.PathSteps.{among_told}
use Rattle.gen_general.proofs.scripted.stands_in.Goals as goal

pub returns : goal.returns
returns c = sym (among_told c.args.path.now c.args.general c.contains.result c.contains.ensures.0 c.contains.ensures.1)

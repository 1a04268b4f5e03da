use Rattle.gen_asked.proofs.AskedTexts.{too_many}
use Rattle.gen_asked.proofs.asked_runs.runs_of.Goals as goal

pub returns-in_default-2 : goal.returns-in_default-2
returns-in_default-2 c = too_many c.args.texts.now c.in_default.len_at_least

use Rattle.std.proofs.Common.{sym}
use Rattle.gen_script.proofs.PathTexts.{last_told}
use Rattle.gen_script.proofs.path_fields.ends_with.Goals as goal

pub returns : goal.returns
returns c = sym (last_told c.args.path.now c.args.me c.ends_with.result c.ends_with.ensures.0 c.ends_with.ensures.1)

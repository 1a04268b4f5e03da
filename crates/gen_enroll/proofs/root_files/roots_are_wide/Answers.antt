use Rattle.gen_identity.proofs.Spelled.{all_wide}
use Rattle.gen_enroll.proofs.root_files.roots_are_wide.Goals as goal

pub returns : goal.returns
returns c = all_wide c.args.roots.now c.told-roots

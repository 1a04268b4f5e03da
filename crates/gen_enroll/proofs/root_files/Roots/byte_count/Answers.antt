use Rattle.std.proofs.Common.{◌≡◌, ◌*◌, length, ap, arith}
use Rattle.gen_identity.proofs.Spelled.{length-siblings}
use Rattle.gen_enroll.specs.RootFiles.{roots_spelling}
use Rattle.gen_enroll.proofs.root_files.Roots.byte_count.Goals as goal

pub returns : goal.returns
returns c =
    let long : length (roots_spelling c.args.self.now.roots) ≡ 32 * length c.args.self.now.roots = length-siblings c.args.self.now.roots c.roots.ensures.file.wide in
    omega (arith, long, ap length c.roots.ensures.value)

use Rattle.std.proofs.Common.{arith}
use Rattle.std.proofs.lemmas.Grind.{common_steps}
use Rattle.gen_walks.specs.Levels.{IsLevelRow}
use Rattle.gen_walks.proofs.Certificate.{shows}
use Rattle.gen_walks.proofs.levels.check_levels.Goals as goal

pub returns-then-level-eq0-clause-law : goal.returns-then-level-eq0-clause-law
returns-then-level-eq0-clause-law c = λ h.
    let row : IsLevelRow c.args.net.now c.args.rest.now c.args.source c.args.row.now = grind (arith, common_steps) in
    shows c.args.net.now c.args.rest.now c.args.source c.args.row.now row

use Rattle.std.proofs.Common.{refl}
use Rattle.gen_local.proofs.Starters.{told_start, no_start}
use Rattle.gen_local.proofs.opening.starts_as.Goals as goal

pub returns-in-Some : goal.returns-in-Some
returns-in-Some c = told_start c.in-Some.first c.args.general c.eq.result c.args.entries.now c.eq.ensures ((c.in-Some.ensures c.in-Some.first).0 refl)

pub returns-in-None : goal.returns-in-None
returns-in-None c = (λ t. absurd cc, λ s. absurd (no_start c.args.general c.starter.result c.args.entries.now c.in-None.is c.starter.ensures s))

use Rattle.gen_audit.proofs.Claims.{nothing_found_explains, explained_finds_nothing}
use Rattle.gen_audit.proofs.Keeping.{runs_have_logs}
use Rattle.gen_audit.proofs.laws.logs_are_explained.Goals as goal

pub returns-clause-explained : goal.returns-clause-explained
returns-clause-explained c = nothing_found_explains

pub returns-clause-found : goal.returns-clause-found
returns-clause-found c = explained_finds_nothing

pub returns-clause-some : goal.returns-clause-some
returns-clause-some c = runs_have_logs

use Rattle.std.proofs.Common.{rules}
use Rattle.std.proofs.lemmas.Fn.{filter_same}
use Rattle.gen_enrolling.proofs.asking.keep_runs.Goals as goal

pub returns-clause-runs : goal.returns-clause-runs
returns-clause-runs c = filter_same _ _ _ (λ x b f' k. search rules) _ _ c.retain.ensures.filtered

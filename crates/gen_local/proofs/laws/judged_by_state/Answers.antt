use Rattle.gen_local.proofs.StateJudges.{judged_may, may_judged}
use Rattle.gen_local.proofs.StateMore.{after_more}
use Rattle.gen_local.proofs.laws.judged_by_state.Goals as goal

pub returns-clause-exactly : goal.returns-clause-exactly
returns-clause-exactly c = λ net g before least orders e ok a small. ((λ j. judged_may net ok g before least orders a e small j), (λ m. may_judged net ok g before least orders a e small m))

pub returns-clause-on : goal.returns-clause-on
returns-clause-on c = λ net g before least orders new e ok a small m b. after_more net ok g before least orders new a e small m b

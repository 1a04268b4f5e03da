use Rattle.std.proofs.Common.{◌==◌, ◌∙◌, rules, tests}
use Rattle.std.proofs.lemmas.Iterator.{YieldsList-from_slice}
use Rattle.std.proofs.lemmas.Iterator.Search.{any_from_yields_List}
use Rattle.gen_convict.specs.declared.evidence.Evidence as found
use Rattle.gen_facts.proofs.Told.{any_told}
use Rattle.gen_facts.proofs.statuses.is_convicted.Goals as goal

pub returns : goal.returns
returns c =
    any_from_yields_List (λ (e : found.Evidence). e.accused == c.args.general) _ _ _ c.any.ensures.ran
    (YieldsList-from_slice c.args.convictions.now cc) (λ x b q k. search (rules, tests))
    ∙ any_told c.args.general c.args.convictions.now

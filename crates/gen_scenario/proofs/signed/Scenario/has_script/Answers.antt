use Rattle.std.proofs.Common.{◌∙◌, List, ap, eqb}
use Rattle.std.specs.List.{list_any}
use Rattle.gen_script.specs.Script.{Script}
use Rattle.gen_scenario.proofs.ScriptSets.{scripted_test}
use Rattle.gen_scenario.proofs.signed.Scenario.has_script.Goals as goal

pub returns : goal.returns
returns c =
    let g = c.args.general in
    c.is_scripted.ensures ∙ ap (λ (xs : List Script). list_any (λ (s : Script). eqb s.general g) xs) c.scripts.ensures ∙ scripted_test c.args.self.now.scripts g

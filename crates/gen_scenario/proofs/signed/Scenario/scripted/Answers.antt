use Rattle.std.proofs.Common.{◌≡◌, ◌<◌, ◌≤◌, ◌∙◌, List, ap, subst, length, get_or}
use Rattle.std.proofs.lemmas.List.{take_all}
use Rattle.gen_script.specs.Script.{Script}
use Rattle.gen_scenario.specs.Scenario.{IsScenario}
use Rattle.gen_scenario.proofs.ScriptSets.{set_of_more, set_of_all}
use Rattle.gen_scenario.proofs.signed.Scenario.scripted.Goals as goal

pub scripts-preserved : goal.scripts-preserved
scripts-preserved c =
    let scripts = c.args.self.now.scripts in
    let same : c.scripts-script-items.result.now ≡ scripts = cc in
    let within : c.scripts.script-index < length scripts = subst (λ (xs : List Script). c.scripts.script-index < length xs) same c.scripts-test.true in
    let item = c.script-item.is ∙ ap (λ (xs : List Script). get_or xs c.scripts.script-index c.script-item.result) same in
    set_of_more c.scripts.set _ scripts c.scripts.script-index _ c.script-item.result within (c.general.ensures ∙ ap (λ (s : Script). s.general) item) c.scripts.invariant c.insert.ensures.members

pub returns : goal.returns
returns c =
    let scripts = c.args.self.now.scripts in
    let same : c.scripts-script-items.result.now ≡ scripts = cc in
    let past : length scripts ≤ c.scripts.script-index = subst (λ (xs : List Script). length xs ≤ c.scripts.script-index) same c.scripts-test.false in
    let lawful : IsScenario c.args.self.now = c.header-lawful.ensures.scenario in
    set_of_all c.scripts.set scripts lawful.ascending (rw (take_all c.scripts.script-index scripts past) at c.scripts.invariant)

use Rattle.std.proofs.Common.{◌≡◌, ◌++◌, List, map}
use Rattle.std.specs.Vec.Iter.{into_iter_items}
use Rattle.gen_scenario.specs.Rows.{logs_of_all}
use Rattle.gen_scenario.specs.Scenario.{Scenario}
use Rattle.gen_making.specs.Campaigning.{AreTextsOf}
use Rattle.gen_making.proofs.campaigning.texts_of_runs.Given as goal

abbrev pub invariant-loop-logs : goal.invariant-loop-logs
invariant-loop-logs l =
    (done : List Scenario) × AreTextsOf done l.texts.items × (done ++ l.rest ≡ l.fn.scenarios)
    × (map (λ logs. logs.items) (into_iter_items l.logs-iterator) ≡ map logs_of_all l.rest)

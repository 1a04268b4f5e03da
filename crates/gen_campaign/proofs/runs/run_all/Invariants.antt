use Rattle.std.proofs.Common.{◌≡◌, ◌++◌, ℕ, true, map, length}
use Rattle.std.specs.List.{list_all}
use Rattle.gen_scenario.specs.Rows.{logs_of_all}
use Rattle.gen_campaign.specs.Series.{ascend_from, is_like}
use Rattle.gen_campaign.specs.Leaves.{AreKept}
use Rattle.gen_campaign.proofs.runs.run_all.Given as goal

abbrev pub invariant-runs : goal.invariant-runs
invariant-runs g l =
    (least : ℕ) × (ascend_from least l.rest ≡ true) × (list_all (is_like l.fn.first) l.rest ≡ true)
    × AreKept l.fn.first l.fn.scenarios l.rest least l.rings.items
    × (map (λ logs. logs.items) l.all.items ++ map logs_of_all l.rest ≡ map logs_of_all l.fn.scenarios)

abbrev pub decreases-runs : goal.decreases-runs
decreases-runs g l = length l.rest

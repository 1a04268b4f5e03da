use Rattle.std.proofs.Common.{◌≡◌, map, take}
use Rattle.std.specs.List.{flat_map}
use Rattle.serde_json.specs.View.{view}
use Rattle.gen_json.specs.DecidedLogs.{exhibit_decision}
use Rattle.gen_json.proofs.decided_logs.logs_value.Given as goal

abbrev pub invariant-loop-exhibit : goal.invariant-loop-exhibit
invariant-loop-exhibit l = map view l.list.items ≡ flat_map (exhibit_decision l.header) (take l.exhibit-index l.exhibits)

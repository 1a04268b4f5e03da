use Rattle.std.proofs.Common.{◌≡◌, map, take}
use Rattle.serde_json.specs.View.{view}
use Rattle.gen_enrolling.specs.Telling.{run_data}
use Rattle.gen_enrolling.proofs.telling.runs_value.Given as goal

abbrev pub invariant-loop-run : goal.invariant-loop-run
invariant-loop-run l = map view l.list.items ≡ map run_data (take l.run-index l.runs)

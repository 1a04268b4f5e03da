use Rattle.std.proofs.Common.{◌≡◌, map, take}
use Rattle.serde_json.specs.View.{view}
use Rattle.gen_json.specs.DecisionData.{decision_data}
use Rattle.gen_json.proofs.decisions.decision_list_value.Given as goal

abbrev pub invariant-loop-decision : goal.invariant-loop-decision
invariant-loop-decision l = map view l.list.items ≡ map decision_data (take l.decision-index l.decisions)

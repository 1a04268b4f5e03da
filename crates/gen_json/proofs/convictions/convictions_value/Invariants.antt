use Rattle.std.proofs.Common.{◌≡◌, map, take}
use Rattle.serde_json.specs.View.{view}
use Rattle.gen_convict.specs.Evidence.{told_of}
use Rattle.gen_json.specs.ConvictionData.{conviction_data}
use Rattle.gen_json.proofs.convictions.convictions_value.Given as goal

abbrev pub invariant-loop-evidence : goal.invariant-loop-evidence
invariant-loop-evidence l = map view l.list.items ≡ map conviction_data (map told_of (take l.evidence-index l.convictions))

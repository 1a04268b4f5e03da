use Rattle.std.proofs.Common.{◌≡◌, map, take}
use Rattle.serde_json.specs.View.{view}
use Rattle.gen_json_parts.specs.FindingData.{finding_data}
use Rattle.gen_json_parts.proofs.findings.findings_value.Given as goal

abbrev pub invariant-loop-finding : goal.invariant-loop-finding
invariant-loop-finding l = map view l.list.items ≡ map finding_data (take l.finding-index l.findings)

use Rattle.std.proofs.Common.{◌≡◌, ◌++◌, length, map}
use Rattle.serde_json.specs.View.{view}
use Rattle.gen_json_files.specs.CampaignData.{runs_data}
use Rattle.gen_json_files.proofs.verdicts.runs_value.Given as goal

abbrev pub invariant-runs : goal.invariant-runs
invariant-runs l = map view l.list.items ++ runs_data l.runs l.rest ≡ runs_data l.bundles l.judgements

abbrev pub decreases-runs : goal.decreases-runs
decreases-runs l = length l.runs

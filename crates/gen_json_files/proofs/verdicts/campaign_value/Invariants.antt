use Rattle.std.proofs.Common.{◌≡◌, map, take}
use Rattle.serde_json.specs.View.{view}
use Rattle.gen_convict.specs.Evidence.{told_of}
use Rattle.gen_json_files.specs.CampaignData.{across_data}
use Rattle.gen_json_files.proofs.verdicts.campaign_value.Given as goal

abbrev pub invariant-loop-evidence : goal.invariant-loop-evidence
invariant-loop-evidence l = map view l.list.items ≡ map (across_data l.bundles) (map told_of (take l.evidence-index l.across))

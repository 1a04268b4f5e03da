use Rattle.std.proofs.Common.{◌≡◌, map, string_bytes, take}
use Rattle.std.specs.List.{flat_map}
use Rattle.gen_convict.specs.Evidence.{told_of}
use Rattle.gen_verdicts.specs.CampaignVerdictText.{across_line}
use Rattle.gen_verdicts.proofs.printing.print_campaign.Given as goal

abbrev pub invariant-loop-evidence : goal.invariant-loop-evidence
invariant-loop-evidence l = string_bytes l.last ≡ flat_map (across_line l.bundles) (map told_of (take l.evidence-index l.across))

-- The runs that a file is of.
use Rattle.std.specs.Prelude.{ℕ, ◌==◌, List, [], ◌∷◌, length, map, Option, Some, None, Result, Ok, Err, if◌then◌else◌}
use Rattle.gen_types.specs.Spelled.{counted}
use Rattle.gen_net.specs.declared.fault.HeaderFault.{HeaderFault}
use Rattle.gen_net.specs.Header.{RunHeader, run_id_of}
use Rattle.gen_net.specs.HeaderReading.{header_at}
use Rattle.gen_convict.specs.declared.evidence_fault.EvidenceFault.{EvidenceFault}
use Rattle.gen_convict.specs.EvidenceReading.{whole_evidence}
use Rattle.gen_convict.specs.EvidenceSpelling.{HeaderAndEvidence}
use Rattle.gen_audit.specs.Bundle.{Bundle}
use Rattle.gen_campaign.specs.Campaign.{CampaignBundle}
use Rattle.gen_campaign.specs.CampaignReading.{whole_campaign}
use Rattle.gen_campaign.specs.declared.campaign_fault.CampaignFault.{CampaignFault}
use Rattle.gen_file.specs.declared.kinds.FileKind.{FileKind}
use Rattle.gen_file.specs.declared.kinds.FileKind.TheVariants.{OfHeader, OfEvidence, OfCampaign}

-- the ids of the runs of bundles, in their order
abbrev pub run_ids : List Bundle → List (List ℕ)
run_ids bundles = map (λ b. run_id_of b.header) bundles

-- the run of a header that is all bytes of a file
abbrev pub header_runs : List ℕ → Result (RunHeader × ℕ) HeaderFault → Option (List (List ℕ))
header_runs bytes (Ok read) = if read.1 == length bytes then Some (run_id_of read.0 ∷ []) else None
header_runs bytes (Err fault) = None

-- the run of evidence: that of its header
abbrev pub evidence_runs : Result HeaderAndEvidence EvidenceFault → Option (List (List ℕ))
evidence_runs (Ok read) = Some (run_id_of read.header ∷ [])
evidence_runs (Err fault) = None

-- the runs of a bundle or a campaign
abbrev pub campaign_runs : Result CampaignBundle CampaignFault → Option (List (List ℕ))
campaign_runs (Ok shown) = Some (run_ids shown.bundles)
campaign_runs (Err fault) = None

-- the ids of the runs that a whole file of its kind is of, in their order; none if it is not whole
abbrev pub runs_as : FileKind → List ℕ → Option (List (List ℕ))
runs_as OfHeader bytes = header_runs bytes (counted header_at bytes)
runs_as OfEvidence bytes = evidence_runs (whole_evidence bytes)
runs_as OfCampaign bytes = campaign_runs (whole_campaign bytes)

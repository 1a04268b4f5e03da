-- What a file is, as lines of JSON. Its first bytes say as what it is read.
use Rattle.std.specs.Prelude.{ℕ, ◌≡◌, ◌==◌, ◌↔◌, IsTrue, Bool, true, false, List, [], ◌++◌, codes, length, Result, Ok, Err}
use Rattle.gen_types.specs.Spelled.{counted}
use Rattle.gen_net.specs.declared.fault.HeaderFault.{HeaderFault}
use Rattle.gen_net.specs.declared.marks.FrontFault.{FrontFault}
use Rattle.gen_net.specs.declared.marks.Marks.{Marks}
use Rattle.gen_net.specs.FrontReading.{front_at}
use Rattle.gen_net.specs.Header.{RunHeader}
use Rattle.gen_net.specs.HeaderReading.{header_at}
use Rattle.gen_convict.specs.declared.evidence_fault.EvidenceFault.{EvidenceFault}
use Rattle.gen_convict.specs.EvidenceReading.{whole_evidence}
use Rattle.gen_convict.specs.EvidenceSpelling.{HeaderAndEvidence, evidence_marks}
use Rattle.gen_audit.specs.BundleSpelling.{bundle_marks}
use Rattle.gen_campaign.specs.declared.campaign_fault.CampaignFault.{CampaignFault}
use Rattle.gen_campaign.specs.Campaign.{CampaignBundle}
use Rattle.gen_campaign.specs.CampaignReading.{whole_campaign}
use Rattle.gen_campaign.specs.FaultText.{campaign_fault_name}
use Rattle.gen_file.specs.declared.kinds.FileKind.{FileKind}
use Rattle.gen_file.specs.declared.kinds.FileKind.TheVariants.{OfHeader, OfEvidence, OfCampaign}
use Rattle.gen_file.specs.FaultText.{header_fault_name}
use Rattle.gen_file.specs.FileFaultText.{evidence_fault_name}
use Rattle.gen_file.specs.Kinds.{Holds}
use Rattle.gen_file.specs.Parts.{front_end}
use Rattle.serde_json.specs.Data.{Data}
use Rattle.gen_json.specs.LineLists.{AreLines}
use Rattle.gen_json_parts.specs.BundleData.{end_line}
use Rattle.gen_json_files.specs.CampaignLines.{campaign_lines}
use Rattle.gen_json_parts.specs.EvidenceLines.{evidence_lines}
use Rattle.gen_json_parts.specs.FaultData.{fault_line}
use Rattle.gen_json_parts.specs.HeaderData.{header_lines}

-- the line of the header with which a file begins, behind a mark; none where no header stands there
abbrev pub front_lines : List ℕ → Result (RunHeader × List ℕ) FrontFault → List ℕ
front_lines name (Ok front) = header_lines name front.0
front_lines name (Err fault) = []

-- the lines of what doesn't read: the header, if that reads, and the fault with the byte up to which the file
-- is shown
unfoldable pub faulty_lines : List ℕ → Marks → List ℕ → List ℕ → List ℕ
faulty_lines name marks bytes fault =
    front_lines name (front_at marks bytes) ++ fault_line fault (front_end marks (front_at marks bytes))

-- the lines of what is read as shown of a campaign
abbrev pub campaign_reading_lines : List ℕ → Result CampaignBundle CampaignFault → List ℕ
campaign_reading_lines bytes (Ok c) = campaign_lines c
campaign_reading_lines bytes (Err fault) =
    faulty_lines (codes "bundle") bundle_marks bytes (campaign_fault_name fault)

-- the text is that of this evidence, and says whether the evidence holds
abbrev pub TellsEvidence : List ℕ → HeaderAndEvidence → Type 0
TellsEvidence text x = (holds : Bool) × (IsTrue holds ↔ Holds x) × (text ≡ evidence_lines holds x)

-- the text is that of what is read as evidence
abbrev pub IsEvidenceText : List ℕ → List ℕ → Result HeaderAndEvidence EvidenceFault → Type 0
IsEvidenceText bytes text (Ok x) = TellsEvidence text x
IsEvidenceText bytes text (Err fault) =
    text ≡ faulty_lines (codes "evidence") evidence_marks bytes (evidence_fault_name fault)

-- the last line of a header: an end, or the byte at which bytes are left over
abbrev pub header_ending : Bool → ℕ → List ℕ
header_ending true at = end_line
header_ending false at = fault_line (codes "left over") at

-- the lines of what is read as a header alone: a header with the number of its bytes
abbrev pub header_reading_lines : List ℕ → Result (RunHeader × ℕ) HeaderFault → List ℕ
header_reading_lines bytes (Ok x) =
    header_lines (codes "header") x.0 ++ header_ending (x.1 == length bytes) x.1
header_reading_lines bytes (Err fault) = fault_line (header_fault_name fault) 0

-- the text is that of a file that is read as one of this kind
abbrev pub IsJsonAs : FileKind → List ℕ → List ℕ → Type 0
IsJsonAs OfHeader bytes text = text ≡ header_reading_lines bytes (counted header_at bytes)
IsJsonAs OfEvidence bytes text = IsEvidenceText bytes text (whole_evidence bytes)
IsJsonAs OfCampaign bytes text = text ≡ campaign_reading_lines bytes (whole_campaign bytes)

-- what is shown of a file as JSON is the lines of values without floats
abbrev pub ShownAreLines : Type 0
ShownAreLines = (kind : FileKind) (input text : List ℕ)
    → IsJsonAs kind input text → (values : List Data) × AreLines text values

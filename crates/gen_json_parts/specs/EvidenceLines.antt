-- Evidence as lines of JSON.
use Rattle.std.specs.Prelude.{ℕ, Bool, List, [], ◌++◌, codes}
use Rattle.gen_net.specs.Header.{RunHeader}
use Rattle.gen_convict.specs.Contradictions.{Claim, TwoTexts, TwoOrders, MissingFromLog, DepartingLog, AcrossRuns}
use Rattle.gen_convict.specs.EvidenceSpelling.{HeaderAndEvidence}
use Rattle.gen_file.specs.Parts.{claim_log_at}
use Rattle.gen_json.specs.EvidenceData.{evidence_data}
use Rattle.gen_json.specs.Line.{json_line}
use Rattle.gen_json_parts.specs.BundleData.{end_line}
use Rattle.gen_json_parts.specs.HeaderData.{header_lines}
use Rattle.gen_json_parts.specs.LogData.{log_lines}

-- the lines of the log that a claim shows, or of the header of the other run; none of another claim
abbrev pub claim_lines : RunHeader → ℕ → Claim → List ℕ
claim_lines h accused (TwoTexts x y) = []
claim_lines h accused (TwoOrders v a w b) = []
claim_lines h accused (MissingFromLog bytes s signature) = log_lines h accused (claim_log_at h) bytes
claim_lines h accused (DepartingLog bytes p) = log_lines h accused (claim_log_at h) bytes
claim_lines h accused (AcrossRuns x y) = header_lines (codes "header") y.header

-- the line of evidence that holds or fails
unfoldable pub evidence_line : Bool → HeaderAndEvidence → List ℕ
evidence_line holds x = json_line (evidence_data x.header x.evidence holds)

-- the lines of evidence that holds or fails
abbrev pub evidence_lines : Bool → HeaderAndEvidence → List ℕ
evidence_lines holds x =
    header_lines (codes "evidence") x.header
    ++ (claim_lines x.header x.evidence.accused x.evidence.claim
    ++ (evidence_line holds x ++ end_line))

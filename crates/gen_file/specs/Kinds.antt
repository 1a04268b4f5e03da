-- As what a file is read, by its first bytes; and when evidence holds.
use Rattle.std.specs.Prelude.{ℕ, ◌==◌, ◌||◌, Bool, false, List, [], ◌∷◌, Result, Ok, Err, if◌then◌else◌}
use Rattle.std.specs.Int.{w32}
use Rattle.gen_types.specs.Bytes.{number_at}
use Rattle.gen_net.specs.declared.marks.FrontFault.{FrontFault}
use Rattle.gen_net.specs.declared.marks.FrontFault.TheVariants as fronts
use Rattle.gen_net.specs.declared.version.Version.{Version}
use Rattle.gen_net.specs.declared.version.Version.TheVariants.{One, Two}
use Rattle.gen_net.specs.Version.{version_one, version_two}
use Rattle.gen_convict.specs.Contradictions.{IsContradiction}
use Rattle.gen_convict.specs.EvidenceSpelling.{HeaderAndEvidence, evidence_marks}
use Rattle.gen_file.specs.declared.kinds.FileKind.{FileKind}
use Rattle.gen_file.specs.declared.kinds.FileKind.TheVariants.{OfHeader, OfEvidence, OfCampaign}

-- the number of a version, with which a header begins
abbrev pub version_number : Version → ℕ
version_number One = version_one
version_number (Two slot) = version_two

-- the first byte is that of a header
abbrev pub begins_header : List ℕ → Bool
begins_header [] = false
begins_header (v ∷ bytes) = v == version_one || v == version_two

-- the number of four bytes is one of the marks of evidence
abbrev pub is_evidence_mark : Result (ℕ × List ℕ) FrontFault → Bool
is_evidence_mark (Ok mark) = mark.0 == evidence_marks.one || mark.0 == evidence_marks.two
is_evidence_mark (Err fault) = false

-- as what a file is read: as a header alone, as evidence, or else as what is shown of a campaign
abbrev pub file_kind : List ℕ → FileKind
file_kind bytes =
    if begins_header bytes then OfHeader
    else (if is_evidence_mark (number_at fronts.Truncated w32 bytes) then OfEvidence else OfCampaign)

-- the evidence holds
abbrev pub Holds : HeaderAndEvidence → Type 0
Holds x = IsContradiction x.header x.evidence.accused x.evidence.claim

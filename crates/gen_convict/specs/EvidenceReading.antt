-- Reading evidence from left to right, with the first fault that is met.
use Rattle.std.specs.Prelude.{ℕ, ◌==◌, List, length, Result, Ok, nat_lt}
use Rattle.gen_types.specs.Reading.{◌>>=◌, check, map_fault}
use Rattle.gen_types.specs.Bytes.{byte_at}
use Rattle.gen_net.specs.FrontReading.{front_at}
use Rattle.gen_net.specs.Header.{RunHeader, IsHeader}
use Rattle.gen_convict.specs.declared.evidence_fault.EvidenceFault.{EvidenceFault}
use Rattle.gen_convict.specs.declared.evidence_fault.EvidenceFault.TheVariants as faults
use Rattle.gen_convict.specs.ClaimReading.{claim_at}
use Rattle.gen_convict.specs.Evidence.{Accusation, IsEvidence}
use Rattle.gen_convict.specs.EvidenceFields.{front_fault}
use Rattle.gen_convict.specs.EvidenceSpelling.{HeaderAndEvidence, evidence_marks}

-- the header is lawful, and the evidence can stand under it
abbrev pub IsWhole : HeaderAndEvidence → Type 0
IsWhole x = IsHeader x.header × IsEvidence x.header x.evidence

-- the accused, who is a general of the network, and the accused with the claim
unfoldable pub accused_at : ℕ → List ℕ → Result (ℕ × List ℕ) EvidenceFault
accused_at n bytes = do
  accused ← byte_at faults.Truncated bytes
  known ← check (nat_lt accused.0 n) faults.OutOfRange
  Ok accused

unfoldable pub accusation_at : RunHeader → List ℕ → Result (Accusation × List ℕ) EvidenceFault
accusation_at h bytes = do
  accused ← accused_at h.network.generals bytes
  claim ← claim_at h accused.0 accused.1
  Ok (record { accused = accused.0; claim = claim.0 }, claim.1)

-- the mark and the header, the evidence under the header, and the bytes after it
unfoldable pub evidence_at : List ℕ → Result (HeaderAndEvidence × List ℕ) EvidenceFault
evidence_at bytes = do
  header ← map_fault front_fault (front_at evidence_marks bytes)
  evidence ← accusation_at header.0 header.1
  Ok (record { header = header.0; evidence = evidence.0 }, evidence.1)

-- the header and the evidence, with no bytes left over
unfoldable pub whole_evidence : List ℕ → Result HeaderAndEvidence EvidenceFault
whole_evidence bytes = do
  whole ← evidence_at bytes
  all ← check (length whole.1 == 0) faults.LeftOver
  Ok whole.0

-- What the job evidence makes of its input.
use Rattle.std.specs.Prelude.{ℕ, ◌≡◌, Bool, true, false, List, codes, Err}
use Rattle.gen_convict.specs.Contradictions.{IsContradiction}
use Rattle.gen_convict.specs.EvidenceReading.{whole_evidence}
use Rattle.gen_convict.specs.EvidenceSpelling.{HeaderAndEvidence}
use Rattle.gen_json.specs.EvidenceData.{evidence_data}
use Rattle.gen_json.specs.Line.{json_line}
use Rattle.gen_ends.specs.declared.ends.JobFault.{JobFault}
use Rattle.gen_ends.specs.declared.ends.JobFault.TheVariants as faults
use Rattle.gen_asked.specs.declared.forms.Form.{Form}
use Rattle.gen_asked.specs.declared.forms.Form.TheVariants.{Text, Json}

-- the claim of the evidence is a contradiction of the accused
abbrev pub Holds : HeaderAndEvidence → Type 0
Holds x = IsContradiction x.header x.evidence.accused x.evidence.claim

-- the text that says whether evidence holds
abbrev pub holds_text : Bool → List ℕ
holds_text true = codes "evidence holds\n"
holds_text false = codes "evidence fails\n"

-- what is told of evidence in a form, and whether it holds
abbrev pub evidence_text : Form → HeaderAndEvidence → Bool → List ℕ
evidence_text Text x holds = holds_text holds
evidence_text Json x holds = json_line (evidence_data x.header x.evidence holds)

-- the text says that the evidence holds, and it does; or that it fails, and it does, and this says no
abbrev pub Tells : Form → HeaderAndEvidence → List ℕ → Bool → Type 0
Tells form x text false = Holds x × (text ≡ evidence_text form x true)
Tells form x text true = (Holds x → ⊥) × (text ≡ evidence_text form x false)

-- the first fault of an input that spells no evidence; or memory was refused
abbrev pub IsEvidenceFault : List ℕ → JobFault → Type 0
IsEvidenceFault input faults.Memory = Unit {0}
IsEvidenceFault input (faults.Evidence f) = whole_evidence input ≡ Err f
IsEvidenceFault input _ = ⊥

-- What answers evidence by a log of the accused.
use Rattle.std.specs.Prelude.{ℕ, ◌≡◌, Bool, true, false, List, codes, Err}
use Rattle.gen_types.specs.Spelled.{Spells}
use Rattle.gen_log.specs.Log.{RunLog, IsLog, log_spelling}
use Rattle.gen_log.specs.LogReading.{log_of}
use Rattle.gen_convict.specs.EvidenceReading.{IsWhole, whole_evidence}
use Rattle.gen_convict.specs.EvidenceSpelling.{HeaderAndEvidence, whole_spelling}
use Rattle.gen_convict.specs.Refuting.{Refutation, IsOwnLog, IsRefutation}
use Rattle.gen_convict.specs.Contradictions.{IsContradiction}
use Rattle.gen_prepare.specs.AnswerLine.{answer_line}
use Rattle.gen_prepare.specs.declared.answers.AnswerFault.{AnswerFault}
use Rattle.gen_prepare.specs.declared.answers.AnswerFault.TheVariants as faults

-- the claim of the evidence is a contradiction of the accused
abbrev pub Holds : HeaderAndEvidence → Type 0
Holds x = IsContradiction x.header x.evidence.accused x.evidence.claim

-- the evidence holds, and the log is one that the accused could have kept by following
abbrev pub CanAnswer : HeaderAndEvidence → RunLog → Type 0
CanAnswer x own = Holds x × IsOwnLog x.header x.evidence.accused own

-- The evidence holds, the log is one that the accused could have kept by following, and the text is the line
-- of an answer. Or one of both is not so, and the text says that there is no answer, which says no.
abbrev pub TellsAnswer : HeaderAndEvidence → RunLog → List ℕ → Bool → Type 0
TellsAnswer x own text false = CanAnswer x own × (answer : Refutation)
    × IsRefutation x.header x.evidence.accused x.evidence.claim own answer × (text ≡ answer_line answer)
TellsAnswer x own text true = (CanAnswer x own → ⊥) × (text ≡ codes "no answer\n")

-- The text answers the evidence that the one input spells by the log that the other does.
pub record IsAnswered (evidence log text : List ℕ) (negative : Bool) : Type 0 where
  pub read : HeaderAndEvidence
  pub spelled : Spells IsWhole whole_spelling evidence read
  pub own : RunLog
  pub kept : Spells (IsLog read.header) log_spelling log own
  pub tells : TellsAnswer read own text negative

-- the fault is the first of an input that spells no evidence, else of one that spells no log of its run; or
-- memory was refused
abbrev pub IsAnswerFault : List ℕ → List ℕ → AnswerFault → Type 0
IsAnswerFault evidence log faults.Memory = Unit {0}
IsAnswerFault evidence log (faults.Evidence f) = whole_evidence evidence ≡ Err f
IsAnswerFault evidence log (faults.Log f) = (read : HeaderAndEvidence)
    × Spells IsWhole whole_spelling evidence read × (log_of read.header log ≡ Err f)

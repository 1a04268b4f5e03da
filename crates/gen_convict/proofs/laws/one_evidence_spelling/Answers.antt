use Rattle.std.proofs.Common.{refl}
use Rattle.gen_types.proofs.Front.{one_spelling_by}
use Rattle.gen_convict.specs.EvidenceReading.{IsWhole, evidence_at}
use Rattle.gen_convict.specs.EvidenceSpelling.{whole_spelling}
use Rattle.gen_convict.proofs.EvidenceLaws.{evidence_reads, evidence_only}
use Rattle.gen_convict.proofs.laws.one_evidence_spelling.Goals as goal

pub returns-clause-one : goal.returns-clause-one
returns-clause-one c = one_spelling_by evidence_at whole_spelling IsWhole evidence_reads

pub returns-clause-again : goal.returns-clause-again
returns-clause-again c = λ e is. evidence_only (whole_spelling e) e (record { fits = is; spelled = refl })

use Rattle.std.proofs.Common.{arith}
use Rattle.gen_types.specs.Spelled.{Spells}
use Rattle.gen_types.proofs.Laws.{found_by, only_by}
use Rattle.gen_convict.specs.Evidence.{told_of}
use Rattle.gen_convict.specs.EvidenceReading.{IsWhole, whole_evidence}
use Rattle.gen_convict.specs.EvidenceSpelling.{whole_spelling}
use Rattle.gen_convict.proofs.EvidenceLaws.{evidence_found, evidence_only}
use Rattle.gen_convict.proofs.evidence_reading.read_evidence.Goals as goal

pub returns-clause-found : goal.returns-clause-found
returns-clause-found c = found_by (λ x. record { header = x.0; evidence = told_of x.1 }) c.evidence_alone.result (whole_evidence c.args.bytes.now) (Spells IsWhole whole_spelling c.args.bytes.now) (λ x e. evidence_found c.args.bytes.now x (λ i. omega (arith, c.type_inv.bytes i)) e) c.evidence_alone.ensures

pub returns-clause-only : goal.returns-clause-only
returns-clause-only c = λ e spells. only_by (λ x. record { header = x.0; evidence = told_of x.1 }) c.evidence_alone.result (whole_evidence c.args.bytes.now) e (evidence_only c.args.bytes.now e spells) c.evidence_alone.ensures

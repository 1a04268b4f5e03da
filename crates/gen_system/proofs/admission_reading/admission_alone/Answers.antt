use Rattle.std.proofs.Common.{arith}
use Rattle.gen_types.specs.Spelled.{Spells}
use Rattle.gen_types.proofs.Laws.{found_by, only_by}
use Rattle.gen_system.specs.declared.admission_fault.AdmissionFault.TheVariants.{LeftOver}
use Rattle.gen_system.specs.AdmissionReading.{admission_at, whole_admission}
use Rattle.gen_system.specs.Admissions.{IsAdmission, admission_spelling}
use Rattle.gen_system.proofs.AdmissionLaws.{admissions_read}
use Rattle.gen_system.proofs.Whole.{alone_found, alone_only}
use Rattle.gen_system.proofs.admission_reading.admission_alone.Goals as goal

pub returns-clause-found : goal.returns-clause-found
unfolding whole_admission
returns-clause-found c = found_by (λ x. x) c.read_whole.result (whole_admission c.args.bytes.now) (Spells IsAdmission admission_spelling c.args.bytes.now) (λ x e. alone_found admission_at admission_spelling IsAdmission LeftOver admissions_read c.args.bytes.now x (λ i. omega (arith, c.type_inv.bytes i)) e) c.read_whole.ensures

pub returns-clause-only : goal.returns-clause-only
unfolding whole_admission
returns-clause-only c = λ x spells. only_by (λ y. y) c.read_whole.result (whole_admission c.args.bytes.now) x (alone_only admission_at admission_spelling IsAdmission LeftOver admissions_read c.args.bytes.now x spells) c.read_whole.ensures

use Rattle.gen_types.proofs.Front.{one_spelling_by}
use Rattle.gen_system.specs.AdmissionReading.{admission_at}
use Rattle.gen_system.specs.Admissions.{IsAdmission, admission_spelling}
use Rattle.gen_system.proofs.AdmissionLaws.{admissions_read}
use Rattle.gen_system.proofs.laws.one_admission_spelling.Goals as goal

pub returns : goal.returns
returns c = one_spelling_by admission_at admission_spelling IsAdmission admissions_read

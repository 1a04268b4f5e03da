use Rattle.gen_enrolling.proofs.Enrolled.{files_are_checked, files_lead}
use Rattle.gen_enrolling.proofs.laws.files_lead_to_headers.Goals as goal

pub returns-clause-leads : goal.returns-clause-leads
returns-clause-leads c = files_lead

pub returns-clause-checked : goal.returns-clause-checked
returns-clause-checked c = files_are_checked

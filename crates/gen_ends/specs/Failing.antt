-- How a job fails if its input can't be read, or an audit or a run can't be made.
use Rattle.gen_types.specs.declared.reading.ReadError.{ReadError}
use Rattle.gen_types.specs.declared.reading.ReadError.TheVariants as errors
use Rattle.gen_text.specs.declared.fault.ScenarioFault.{ScenarioFault}
use Rattle.gen_campaign.specs.declared.campaign_fault.CampaignFault.{CampaignFault}
use Rattle.gen_convict.specs.declared.evidence_fault.EvidenceFault.{EvidenceFault}
use Rattle.gen_receipt.specs.declared.receipt_fault.ReceiptFault.{ReceiptFault}
use Rattle.gen_prepare.specs.declared.answers.AnswerFault.{AnswerFault}
use Rattle.gen_prepare.specs.declared.answers.AnswerFault.TheVariants as answers
use Rattle.gen_audit.specs.declared.bundle_fault.BundleFault.{BundleFault}
use Rattle.gen_campaign.specs.declared.campaign_fault.CampaignFault.TheVariants.{Alone}
use Rattle.gen_prepare.specs.declared.header_fault.HeaderTextFault.{HeaderTextFault}
use Rattle.gen_prepare.specs.declared.header_fault.HeaderTextFault.TheVariants as headers
use Rattle.gen_prepare.specs.declared.seed_fault.SeedFault.{SeedFault}
use Rattle.gen_audit.specs.declared.faults.AuditFault.{AuditFault}
use Rattle.gen_audit.specs.declared.faults.AuditFault.TheVariants as audits
use Rattle.gen_threads.specs.declared.ends.RunFault.{RunFault}
use Rattle.gen_threads.specs.declared.ends.RunFault.TheVariants as runs
use Rattle.gen_ends.specs.declared.ends.JobFault.{JobFault}
use Rattle.gen_ends.specs.declared.ends.JobFault.TheVariants as faults

-- the job's fault for a scenario that can't be read
abbrev pub scenario_failure : ReadError ScenarioFault → JobFault
scenario_failure errors.Memory = faults.Memory
scenario_failure (errors.Fault f) = faults.Scenario f

-- the job's fault for a campaign that can't be read
abbrev pub campaign_failure : ReadError CampaignFault → JobFault
campaign_failure errors.Memory = faults.Memory
campaign_failure (errors.Fault f) = faults.Campaign f

-- the job's fault for evidence that can't be read
abbrev pub evidence_failure : ReadError EvidenceFault → JobFault
evidence_failure errors.Memory = faults.Memory
evidence_failure (errors.Fault f) = faults.Evidence f

-- the job's fault for receipts that can't be read
abbrev pub receipt_failure : ReadError ReceiptFault → JobFault
receipt_failure errors.Memory = faults.Memory
receipt_failure (errors.Fault f) = faults.Receipt f

-- the job's fault for a seed that can't be read
abbrev pub seed_failure : ReadError SeedFault → JobFault
seed_failure errors.Memory = faults.Memory
seed_failure (errors.Fault f) = faults.Seed f

-- the job's fault for this fault of the text of a header
abbrev pub header_text_failure : HeaderTextFault → JobFault
header_text_failure (headers.Text f) = faults.Scenario f
header_text_failure (headers.EqualRoots a b) = faults.EqualRoots a b

-- the job's fault for a text that gives no header
abbrev pub header_failure : ReadError HeaderTextFault → JobFault
header_failure errors.Memory = faults.Memory
header_failure (errors.Fault f) = header_text_failure f

-- the job's fault for a bundle that can't be made
abbrev pub bundle_failure : ReadError BundleFault → JobFault
bundle_failure errors.Memory = faults.Memory
bundle_failure (errors.Fault f) = faults.Campaign (Alone f)

-- the job's fault for evidence and a log that are not looked at
abbrev pub answer_failure : AnswerFault → JobFault
answer_failure answers.Memory = faults.Memory
answer_failure (answers.Evidence f) = faults.Evidence f
answer_failure (answers.Log f) = faults.Log f

-- the job's fault for an audit that could not be made
abbrev pub audit_failure : AuditFault → JobFault
audit_failure audits.Memory = faults.Memory
audit_failure audits.Thread = faults.Thread

-- the job's fault for a run that has no logs
abbrev pub run_failure : RunFault → JobFault
run_failure runs.Memory = faults.Memory
run_failure runs.Thread = faults.Thread
run_failure runs.Gone = faults.Thread

-- How an answer fails where an input can't be read.
use Rattle.gen_types.specs.declared.reading.ReadError.{ReadError}
use Rattle.gen_types.specs.declared.reading.ReadError.TheVariants as errors
use Rattle.gen_convict.specs.declared.evidence_fault.EvidenceFault.{EvidenceFault}
use Rattle.gen_log.specs.declared.fault.LogFault.{LogFault}
use Rattle.gen_prepare.specs.declared.answers.AnswerFault.{AnswerFault}
use Rattle.gen_prepare.specs.declared.answers.AnswerFault.TheVariants as faults

abbrev pub evidence_failure : ReadError EvidenceFault → AnswerFault
evidence_failure errors.Memory = faults.Memory
evidence_failure (errors.Fault f) = faults.Evidence f

abbrev pub log_failure : ReadError LogFault → AnswerFault
log_failure errors.Memory = faults.Memory
log_failure (errors.Fault f) = faults.Log f

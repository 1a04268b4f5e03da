use Rattle.std.proofs.Common.{◌∙◌}
use Rattle.gen_types.specs.declared.reading.ReadError.TheVariants as reads
use Rattle.gen_program.proofs.Ended.{unadmitted}
use Rattle.gen_program.proofs.admitting.finish_admitted.Goals as goal

pub returns-in-Err-clause-end : goal.returns-in-Err-clause-end
returns-in-Err-clause-end g c = unadmitted (reads.Fault c.in-Err.fault) c.with.result (c.with.ensures.status ∙ c.fail_admission.ensures) c.with.ensures.unclosed

use Rattle.sm_embed.proofs.Admitted.{among_told}
use Rattle.sm_embed.proofs.among.keep_among.Goals as goal

pub returns-in-Ok : goal.returns-in-Ok
returns-in-Ok c =
    let is = rw c.as_ref.ensures.value at c.in-Ok.ensures.asked in
    among_told c.args.job c.args.admission.now c.args.system c.args.input.now c.in-Ok.asked c.told_job.result c.keep.new.answer.held c.keep.result is c.told_job.ensures.answer c.told_job.ensures.facts c.told_job.ensures.fault c.keep.ensures

use Rattle.std.proofs.Common.{subst}
use Rattle.gen_asked.specs.declared.jobs.Job.{Job}
use Rattle.sm_embed.specs.Among.{MakesAsked, MakesBy}
use Rattle.sm_embed.specs.Options.{job_of}
use Rattle.sm_embed.proofs.among.make.Goals as goal

pub returns-in-Some : goal.returns-in-Some
returns-in-Some c =
    let admission = c.args.options.now.admission.now in
    let input = c.args.input.now in
    let held = c.keep_asked.new.answer.held in
    let status = c.keep_asked.result in
    subst (λ wanted. MakesBy (job_of c.args.task) input admission wanted held status) c.in-Some.ensures
    (subst (λ (job : Job). MakesAsked job admission c.in-Some.wanted.system input held status) c.job_of.ensures.same c.keep_asked.ensures)

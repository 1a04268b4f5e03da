use Rattle.std.proofs.Common.{ℕ, subst}
use Rattle.gen_asked.specs.declared.jobs.Job.{Job}
use Rattle.sm_embed.specs.Among.{MakesAbout, MakesKnownAsked}
use Rattle.sm_embed.specs.Options.{job_about}
use Rattle.sm_embed.proofs.knowing.make_about.Goals as goal

pub returns-in-Some-clause-general : goal.returns-in-Some-clause-general
returns-in-Some-clause-general c = λ below.
    let admission = c.args.options.now.admission.now in
    let input = c.args.input.now in
    let held = c.keep_known_asked.new.answer.held in
    let status = c.keep_known_asked.result in
    let system = c.in-Some.wanted.system in
    subst (λ wanted. MakesAbout (job_about c.args.task c.args.general) c.args.general input admission wanted held status) c.in-Some.ensures
    (subst (λ (g : ℕ). MakesKnownAsked (job_about c.args.task g c.in-Some.wanted) g admission system input held status) c.at-about.ensures
    (subst (λ (job : Job). MakesKnownAsked job c.at-about.result admission system input held status) c.job_about-job.ensures.same c.keep_known_asked.ensures))

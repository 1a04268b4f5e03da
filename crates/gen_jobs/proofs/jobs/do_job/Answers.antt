use Rattle.std.specs.Prelude.{option_map}
use Rattle.gen_jobs.specs.Jobs.{JobAnswers, JobFails}
use Rattle.gen_ends.proofs.Delivering.{answered}
use Rattle.gen_jobs.proofs.Unwritten.{no_job_writes}
use Rattle.gen_jobs.proofs.jobs.do_job.Goals as goal

pub returns-in-Ok-clause-answers : goal.returns-in-Ok-clause-answers
returns-in-Ok-clause-answers g c =
    answered (JobAnswers c.args.job (option_map (λ t. t.now) c.args.name)) (JobFails c.args.job) (g.R.Read.remaining c.args.reader.now) (g.W.Write.contents c.args.writer.now) (g.W.Write.contents c.deliver.new.writer) c.in-Ok.input.items c.answer.result c.deliver.result (no_job_writes c.args.job c.in-Ok.input.items) c.in-Ok.ensures.whole c.answer.ensures.answer c.answer.ensures.fault c.deliver.ensures

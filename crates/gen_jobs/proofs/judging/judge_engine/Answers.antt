use Rattle.std.proofs.Common.{◌≡◌}
use Rattle.std.specs.Prelude.{IfSome, option_map}
use Rattle.gen_jobs.specs.Judging.{IsJudgedAs}
use Rattle.gen_making.specs.Run.{IsRunFault}
use Rattle.gen_ends.proofs.Delivering.{answered}
use Rattle.gen_jobs.proofs.judging.judge_engine.Goals as goal

pub returns-in-Ok-clause-answers : goal.returns-in-Ok-clause-answers
returns-in-Ok-clause-answers g c =
    let whole : IfSome (g.R.Read.remaining c.args.reader.now) (λ input. c.deref.result.now ≡ input) = rw c.deref.ensures.value c.in-Ok.ensures.whole in
    answered (IsJudgedAs c.args.form c.args.strict (option_map (λ t. t.now) c.args.name)) IsRunFault (g.R.Read.remaining c.args.reader.now) (g.W.Write.contents c.args.writer.now) (g.W.Write.contents c.deliver.new.writer) c.deref.result.now c.judge.result c.deliver.result (λ never. never) whole c.judge.ensures.answer c.judge.ensures.fault c.deliver.ensures

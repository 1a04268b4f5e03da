use Rattle.std.proofs.Common.{◌≡◌}
use Rattle.std.specs.Prelude.{IfSome}
use Rattle.gen_telling.specs.Decide.{IsDecidedIn, IsDecideFault}
use Rattle.gen_ends.proofs.Delivering.{answered}
use Rattle.gen_telling.proofs.deciding.decide_engine.Goals as goal

pub returns-in-Ok-clause-answers : goal.returns-in-Ok-clause-answers
returns-in-Ok-clause-answers g c =
    let whole : IfSome (g.R.Read.remaining c.args.reader.now) (λ input. c.deref.result.now ≡ input) = rw c.deref.ensures.value c.in-Ok.ensures.whole in
    answered (IsDecidedIn c.args.form) IsDecideFault (g.R.Read.remaining c.args.reader.now) (g.W.Write.contents c.args.writer.now) (g.W.Write.contents c.deliver.new.writer) c.deref.result.now c.decide.result c.deliver.result (λ never. never) whole c.decide.ensures.answer c.decide.ensures.fault c.deliver.ensures

use Rattle.gen_judging.specs.Asking.{IsAccusedOf, IsShowFault}
use Rattle.gen_judging.specs.Audit.{ByWorkers}
use Rattle.gen_ends.proofs.Delivering.{answered}
use Rattle.gen_judging.proofs.accusing.accuse_engine.Goals as goal

pub returns-in-Ok-clause-answers : goal.returns-in-Ok-clause-answers
returns-in-Ok-clause-answers g c =
    answered (IsAccusedOf c.args.asked c.args.general) (λ input. ByWorkers c.args.workers (IsShowFault c.args.asked input)) (g.R.Read.remaining c.args.reader.now) (g.W.Write.contents c.args.writer.now) (g.W.Write.contents c.deliver.new.writer) c.in-Ok.input.items c.accuse.result c.deliver.result (λ never. never) c.in-Ok.ensures.whole c.accuse.ensures.answer c.accuse.ensures.fault c.deliver.ensures

use Rattle.gen_judging.specs.Asking.{IsDrawnBy, IsHeldFault}
use Rattle.gen_judging.specs.Audit.{ByWorkers}
use Rattle.gen_ends.proofs.Delivering.{answered}
use Rattle.gen_judging.proofs.drawing.draw_engine.Goals as goal

pub returns-in-Ok-clause-answers : goal.returns-in-Ok-clause-answers
returns-in-Ok-clause-answers g c =
    answered (IsDrawnBy c.args.asked.now) (λ input. ByWorkers c.args.workers (IsHeldFault c.args.asked.now input)) (g.R.Read.remaining c.args.reader.now) (g.W.Write.contents c.args.writer.now) (g.W.Write.contents c.deliver.new.writer) c.in-Ok.input.items c.draw.result c.deliver.result (λ never. never) c.in-Ok.ensures.whole c.draw.ensures.answer c.draw.ensures.fault c.deliver.ensures

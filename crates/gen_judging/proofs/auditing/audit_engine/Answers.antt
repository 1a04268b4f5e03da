use Rattle.std.specs.Prelude.{option_map}
use Rattle.gen_judging.specs.Asking.{IsAuditedBy, IsHeldFault}
use Rattle.gen_judging.specs.Audit.{ByWorkers}
use Rattle.gen_ends.proofs.Delivering.{answered}
use Rattle.gen_judging.proofs.auditing.audit_engine.Goals as goal

pub returns-in-Ok-clause-answers : goal.returns-in-Ok-clause-answers
returns-in-Ok-clause-answers g c =
    answered (IsAuditedBy c.args.asked.now c.args.form c.args.strict (option_map (λ t. t.now) c.args.name)) (λ input. ByWorkers c.args.workers (IsHeldFault c.args.asked.now input)) (g.R.Read.remaining c.args.reader.now) (g.W.Write.contents c.args.writer.now) (g.W.Write.contents c.deliver.new.writer) c.in-Ok.input.items c.audit.result c.deliver.result (λ never. never) c.in-Ok.ensures.whole c.audit.ensures.answer c.audit.ensures.fault c.deliver.ensures

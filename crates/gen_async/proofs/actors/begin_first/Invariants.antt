use Rattle.gen_general.specs.DrivenRecords.{RecordsAfter}
use Rattle.gen_async.proofs.actors.begin_first.Given as goal

abbrev pub invariant-rounds : goal.invariant-rounds
invariant-rounds l = RecordsAfter l.scenario l._gone l.fn.me l.recorder

use Rattle.gen_general.specs.DrivenRecords.{RecordsAfter, written_until}
use Rattle.gen_scenario.specs.Scenario.{header_of}
use Rattle.gen_threads.specs.Edges.{HaveCarried}
use Rattle.gen_threads.specs.Ending.{RingComesBack}
use Rattle.gen_threads.specs.Rings.{HasSpentOnSigns}
use Rattle.gen_threads.proofs.running.run_to_end.Given as goal

abbrev pub invariant-rounds : goal.invariant-rounds
invariant-rounds g l = record {
  records : RecordsAfter l.part.scenario l.gone l.part.me l.recorder;
  carried : HaveCarried l.edges l.part.scenario l.gone l.part.me l.puts.items l.takes.items;
  ring : RingComesBack (header_of l.part.scenario) l.initial.recorder.standing.ring l.recorder.standing.ring;
  signed : HasSpentOnSigns l.part.scenario l.part.me (written_until l.part.scenario l.gone l.part.me) l.initial.recorder.standing.ring l.recorder.standing.ring;
}

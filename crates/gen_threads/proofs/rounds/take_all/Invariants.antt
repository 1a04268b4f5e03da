use Rattle.std.proofs.Common.{◌≡◌}
use Rattle.gen_threads.specs.Turns.{IsTaking}
use Rattle.gen_threads.proofs.rounds.take_all.Given as goal

abbrev pub invariant-near : goal.invariant-near
invariant-near g l = record {
  so_far : IsTaking l.edges l.part.scenario l.gone l.part.me l.number l.index l.recorder l.takes.items;
  ring : l.recorder.standing.ring ≡ l.initial.recorder.standing.ring;
}

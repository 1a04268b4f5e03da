use Rattle.std.proofs.Common.{◌≡◌, ◌≤◌, ◌<◌, ◌++◌, ℕ, [], length, slice_index_or}
use Rattle.gen_general.specs.Recording.{Recorder}
use Rattle.gen_general.specs.Driving.{rows_first}
use Rattle.gen_general.specs.DrivenRecords.{RecordsAfter, HasHeard}
use Rattle.gen_world.proofs.world.send_all.Given as goal

abbrev pub invariant-senders : goal.invariant-senders
invariant-senders l = record {
  count : length l.parts.items ≡ l.scenario.net.generals;
  done : (g : ℕ) (d : Recorder) → g < l.number → HasHeard l.scenario l.gone g [] (slice_index_or l.parts.items g d);
  rest : (g : ℕ) (d : Recorder) → l.number ≤ g → g < l.scenario.net.generals → RecordsAfter l.scenario l.gone g (slice_index_or l.parts.items g d);
  frames : l.frames.items ≡ l.initial.frames.items ++ rows_first l.scenario l.gone l.number;
}

use Rattle.std.proofs.Common.{◌≡◌, ◌≤◌, ◌<◌, ◌++◌, ℕ, reverse, length, slice_index_or, vec_capacity, vec_len}
use Rattle.std.specs.List.{flat_map}
use Rattle.gen_general.specs.Recording.{Recorder, logs_written}
use Rattle.gen_general.specs.DrivenRecords.{RecordsAfter, AllRecord}
use Rattle.gen_general.specs.Driving.{rows_until}
use Rattle.gen_world.proofs.world.run_rounds.Given as goal

abbrev pub invariant-generals : goal.invariant-generals
invariant-generals l = record {
  count : length l.parts.items ≡ l.number;
  len : vec_len l.parts ≡ l.number;
  room : l.generals ≤ vec_capacity l.parts;
  each : (g : ℕ) (d : Recorder) → g < l.number → RecordsAfter l.scenario 0 g (slice_index_or l.parts.items g d);
}

abbrev pub invariant-rounds : goal.invariant-rounds
invariant-rounds l = record {
  all : AllRecord l.scenario l.gone l.parts.items;
  frames : l.frames.items ≡ rows_until l.scenario l.gone;
}

abbrev pub invariant-loop-part : goal.invariant-loop-part
invariant-loop-part l = l.logs.items ++ flat_map logs_written (reverse l.parts.items) ≡ flat_map logs_written (reverse l.initial.parts.items)

abbrev pub decreases-loop-part : goal.decreases-loop-part
decreases-loop-part l = length l.parts.items

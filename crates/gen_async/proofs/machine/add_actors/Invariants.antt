use Rattle.std.proofs.Common.{◌≡◌, ◌≤◌, ◌<◌, ℕ, length, slice_index_or, vec_capacity, vec_len}
use Rattle.gen_async.specs.Actors.{ActorState}
use Rattle.gen_async.proofs.machine.add_actors.Given as goal

abbrev pub invariant-generals : goal.invariant-generals
invariant-generals l = record {
  count : length l.actors.items ≡ l.number;
  len : vec_len l.actors ≡ l.number;
  room : l.generals ≤ vec_capacity l.actors;
  each : (g : ℕ) (d : ActorState) → g < l.number → ◌≡◌ {A = ActorState} (slice_index_or l.actors.items g d) (record { scenario = l.scenario; me = g; progress = 0 });
}

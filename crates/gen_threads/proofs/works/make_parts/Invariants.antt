use Rattle.std.proofs.Common.{◌≡◌, ◌<◌, ℕ, length, slice_index_or}
use Rattle.gen_threads.specs.Parts.{RunPart}
use Rattle.gen_threads.proofs.works.make_parts.Given as goal

abbrev pub invariant-generals : goal.invariant-generals
invariant-generals l = record {
  count : length l.parts.items ≡ l.number;
  each : (g : ℕ) (d : RunPart) → g < l.number → slice_index_or l.parts.items g d ≡ record { scenario = l.scenario; me = g };
}

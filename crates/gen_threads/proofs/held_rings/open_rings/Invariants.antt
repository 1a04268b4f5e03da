use Rattle.std.proofs.Common.{◌≡◌, ◌<◌, ℕ, length, slice_index_or}
use Rattle.gen_tree.specs.Rings.{Ring}
use Rattle.gen_threads.specs.HeldRings.{IsUntaken}
use Rattle.gen_threads.proofs.held_rings.open_rings.Given as goal

abbrev pub invariant-generals : goal.invariant-generals
invariant-generals l = record {
  count : length l.rings.items ≡ l.number;
  each : (g : ℕ) (d : Ring) → g < l.number → IsUntaken l.scenario g (slice_index_or l.rings.items g d);
}

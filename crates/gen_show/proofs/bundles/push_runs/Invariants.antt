use Rattle.std.proofs.Common.{◌≡◌, ◌+◌, ◌++◌, string_bytes, drop}
use Rattle.std.specs.Prelude.{sum_by}
use Rattle.gen_file.specs.Parts.{bundle_length}
use Rattle.gen_show.specs.BundleText.{run_lines}
use Rattle.gen_show.proofs.bundles.push_runs.Given as goal

abbrev pub invariant-loop-place : goal.invariant-loop-place
invariant-loop-place l = record {
  text : string_bytes l.out ++ run_lines l.place-counter l.at (drop l.place-counter l.bundles) ≡ string_bytes l.fn.out ++ run_lines 0 l.start l.bundles;
  room : l.at + sum_by bundle_length (drop l.place-counter l.bundles) ≡ l.start + sum_by bundle_length l.bundles;
}

use Rattle.std.proofs.Common.{◌≡◌, ◌+◌, ◌++◌, drop}
use Rattle.std.specs.Prelude.{sum_by}
use Rattle.gen_file.specs.Parts.{bundle_length}
use Rattle.gen_json_parts.specs.BundleData.{run_lines}
use Rattle.gen_json_parts.proofs.bundles.push_runs.Given as goal

abbrev pub invariant-loop-place : goal.invariant-loop-place
invariant-loop-place l = record {
  text : l.out.items ++ run_lines l.place l.at (drop l.place l.bundles) ≡ l.fn.out.items ++ run_lines 0 l.start l.bundles;
  room : l.at + sum_by bundle_length (drop l.place l.bundles) ≡ l.start + sum_by bundle_length l.bundles;
}

use Rattle.std.proofs.Common.{◌≡◌, ◌+◌, ◌++◌, drop}
use Rattle.std.specs.Prelude.{sum_by}
use Rattle.gen_file.specs.Parts.{exhibit_length}
use Rattle.gen_json_parts.specs.BundleData.{exhibit_lines}
use Rattle.gen_json_parts.proofs.bundles.push_exhibits.Given as goal

abbrev pub invariant-loop-index : goal.invariant-loop-index
invariant-loop-index l = record {
  text : l.out.items ++ exhibit_lines l.header l.at (drop l.index l.exhibits) ≡ l.fn.out.items ++ exhibit_lines l.header l.start l.exhibits;
  room : l.at + sum_by exhibit_length (drop l.index l.exhibits) ≡ l.start + sum_by exhibit_length l.exhibits;
}

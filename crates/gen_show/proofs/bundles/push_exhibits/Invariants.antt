use Rattle.std.proofs.Common.{◌≡◌, ◌+◌, ◌++◌, string_bytes, drop}
use Rattle.std.specs.Prelude.{sum_by}
use Rattle.gen_file.specs.Parts.{exhibit_length}
use Rattle.gen_show.specs.BundleText.{exhibit_lines}
use Rattle.gen_show.proofs.bundles.push_exhibits.Given as goal

abbrev pub invariant-loop-index : goal.invariant-loop-index
invariant-loop-index l = record {
  text : string_bytes l.out ++ exhibit_lines l.header l.at (drop l.index l.exhibits) ≡ string_bytes l.fn.out ++ exhibit_lines l.header l.start l.exhibits;
  room : l.at + sum_by exhibit_length (drop l.index l.exhibits) ≡ l.start + sum_by exhibit_length l.exhibits;
}

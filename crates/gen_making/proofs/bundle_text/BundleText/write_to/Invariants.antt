use Rattle.std.proofs.Common.{take}
use Rattle.std.specs.List.{flat_map}
use Rattle.std.specs.Io.KnownBytes.{Appends}
use Rattle.gen_audit.specs.BundleSpelling.{exhibit_spelling}
use Rattle.gen_making.proofs.bundle_text.BundleText.write_to.Given as goal

abbrev pub invariant-exhibits : goal.invariant-exhibits
invariant-exhibits g l = Appends (g.W.Write.contents l.initial.writer) (g.W.Write.contents l.writer) (flat_map exhibit_spelling (take l.exhibit-index l.exhibits))

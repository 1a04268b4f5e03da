use Rattle.std.proofs.Common.{◌≡◌, ◌++◌, take}
use Rattle.std.specs.List.{flat_map}
use Rattle.gen_audit.specs.BundleSpelling.{exhibit_spelling}
use Rattle.gen_audit.proofs.bundle_writing.write_bundle.Given as goal

abbrev pub invariant-showing : goal.invariant-showing
invariant-showing l = l.out.items ≡ l.initial.out.items ++ flat_map exhibit_spelling (take l.exhibit-index l.exhibits)

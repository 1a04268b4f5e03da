use Rattle.std.proofs.Common.{◌≡◌, ◌++◌, take}
use Rattle.std.specs.List.{flat_map}
use Rattle.gen_audit.specs.BundleSpelling.{walk_spelling}
use Rattle.gen_audit.proofs.bundle_writing.bundle_front.Given as goal

abbrev pub invariant-walking : goal.invariant-walking
invariant-walking l = l.out.items ≡ l.initial.out.items ++ flat_map walk_spelling (take l.walk-index l.walks)

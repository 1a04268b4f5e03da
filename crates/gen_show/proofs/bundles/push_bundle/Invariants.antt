use Rattle.std.proofs.Common.{◌≡◌, ◌++◌, string_bytes, take}
use Rattle.std.specs.List.{flat_map}
use Rattle.gen_show.specs.BundleText.{walk_line}
use Rattle.gen_show.proofs.bundles.push_bundle.Given as goal

abbrev pub invariant-loop-walk : goal.invariant-loop-walk
invariant-loop-walk l = string_bytes l.out ≡ string_bytes l.initial.out ++ flat_map walk_line (take l.walk-index l.walks)

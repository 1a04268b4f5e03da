use Rattle.std.proofs.Common.{◌≡◌, ◌++◌, take}
use Rattle.std.specs.List.{flat_map}
use Rattle.gen_json_parts.specs.BundleData.{walk_line}
use Rattle.gen_json_parts.proofs.bundles.push_walks.Given as goal

abbrev pub invariant-loop-walk : goal.invariant-loop-walk
invariant-loop-walk l = l.out.items ≡ l.initial.out.items ++ flat_map walk_line (take l.walk-index l.walks)

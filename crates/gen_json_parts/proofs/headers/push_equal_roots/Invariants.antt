use Rattle.std.proofs.Common.{◌≡◌, ◌++◌, take}
use Rattle.std.specs.List.{flat_map}
use Rattle.gen_json_parts.specs.HeaderData.{equal_roots_line}
use Rattle.gen_json_parts.proofs.headers.push_equal_roots.Given as goal

abbrev pub invariant-loop-pair : goal.invariant-loop-pair
invariant-loop-pair l = l.out.items ≡ l.fn.out.items ++ flat_map equal_roots_line (take l.pair-index l.pairs)

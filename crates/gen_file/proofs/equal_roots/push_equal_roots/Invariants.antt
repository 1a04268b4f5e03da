use Rattle.std.proofs.Common.{◌≡◌, ◌++◌, string_bytes, take}
use Rattle.std.specs.List.{flat_map}
use Rattle.gen_file.specs.EqualRootsText.{equal_roots_line}
use Rattle.gen_file.proofs.equal_roots.push_equal_roots.Given as goal

abbrev pub invariant-loop-pair : goal.invariant-loop-pair
invariant-loop-pair l = string_bytes l.out ≡ string_bytes l.initial.out ++ flat_map equal_roots_line (take l.pair-index l.pairs)

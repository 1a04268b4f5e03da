use Rattle.std.proofs.Common.{◌≡◌, ◌++◌, codes, string_bytes, take}
use Rattle.std.specs.List.{flat_map}
use Rattle.std.specs.Fmt.{decimal}
use Rattle.gen_file.proofs.lists.push_generals.Given as goal

abbrev pub invariant-loop-general : goal.invariant-loop-general
invariant-loop-general l = string_bytes l.out ≡ string_bytes l.initial.out ++ flat_map (λ w. codes "," ++ decimal w) (take l.general-index l.rest)

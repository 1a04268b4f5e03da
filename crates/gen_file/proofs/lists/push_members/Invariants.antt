use Rattle.std.proofs.Common.{◌≡◌, ◌++◌, codes, string_bytes}
use Rattle.std.specs.List.{flat_map}
use Rattle.std.specs.Fmt.{decimal}
use Rattle.gen_file.proofs.lists.push_members.Given as goal

abbrev pub invariant-loop-member : goal.invariant-loop-member
invariant-loop-member g l = string_bytes l.initial.out ++ flat_map (λ w. codes "," ++ decimal w) l.initial.member-iterator ≡ string_bytes l.out ++ flat_map (λ w. codes "," ++ decimal w) l.member-iterator

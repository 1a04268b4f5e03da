use Rattle.std.proofs.Common.{◌≡◌, ◌++◌, map, string_bytes, take}
use Rattle.std.specs.List.{flat_map}
use Rattle.gen_convict.specs.Evidence.{told_of}
use Rattle.gen_draw.specs.Marks.{convicted_at}
use Rattle.gen_draw.proofs.marks.push_convicted.Given as goal

abbrev pub invariant-loop-evidence : goal.invariant-loop-evidence
invariant-loop-evidence l = string_bytes l.out ≡ string_bytes l.fn.out ++ flat_map (convicted_at l.general) (map told_of (take l.evidence-index l.convictions))

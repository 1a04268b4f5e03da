use Rattle.std.proofs.Common.{◌≡◌, ◌++◌, map, string_bytes, take}
use Rattle.std.specs.List.{flat_map}
use Rattle.gen_convict.specs.Evidence.{told_of}
use Rattle.gen_draw.specs.Several.{across_span}
use Rattle.gen_draw.proofs.several.push_across.Given as goal

abbrev pub invariant-loop-evidence : goal.invariant-loop-evidence
invariant-loop-evidence l = string_bytes l.out ≡ string_bytes l.initial.out ++ flat_map (across_span l.bundles) (map told_of (take l.evidence-index l.across))

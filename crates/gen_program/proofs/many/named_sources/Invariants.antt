use Rattle.std.proofs.Common.{◌≡◌, map, take, Some}
use Rattle.gen_program.specs.Sources.{name_of}
use Rattle.gen_program.proofs.many.named_sources.Given as goal

abbrev pub invariant-loop-name : goal.invariant-loop-name
invariant-loop-name l = map name_of l.sources.items ≡ map Some (map (λ name. name.now) (take l.name-index l.names))

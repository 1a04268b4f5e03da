use Rattle.std.proofs.Common.{◌≡◌, map, take}
use Rattle.gen_program.specs.Sources.{name_of, named_by}
use Rattle.gen_program.proofs.many.word_sources.Given as goal

abbrev pub invariant-loop-word : goal.invariant-loop-word
invariant-loop-word l = map name_of l.sources.items ≡ map named_by (map (λ word. word.now) (take l.word-index l.words))

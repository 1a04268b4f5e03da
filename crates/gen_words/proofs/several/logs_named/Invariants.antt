use Rattle.std.proofs.Common.{map, take}
use Rattle.gen_words.specs.Several.{AreNamed}
use Rattle.gen_words.proofs.several.logs_named.Given as goal

abbrev pub invariant-loop-word : goal.invariant-loop-word
invariant-loop-word l = record {
  named : AreNamed (map (λ w. w.now) (take l.word-index l.words)) l.generals.items (map (λ f. f.now) l.files.items);
}

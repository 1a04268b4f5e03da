use Rattle.std.proofs.Common.{◌≡◌, ◌+◌, ◌≤◌, ◌∷◌, map, take}
use Rattle.gen_words.specs.Several.{standards}
use Rattle.gen_words.proofs.several.read_once.Given as goal

abbrev pub invariant-loop-other : goal.invariant-loop-other
invariant-loop-other l = record {
  count : l.count ≡ standards (l.fn.first ∷ map (λ o. o.now) (take l.other-index l.others));
  most : l.count ≤ 1 + l.other-index;
}

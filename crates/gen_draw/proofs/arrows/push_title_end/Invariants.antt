use Rattle.std.proofs.Common.{◌≡◌, ◌++◌, string_bytes, take}
use Rattle.gen_draw.specs.Arrows.{path_words}
use Rattle.gen_draw.proofs.arrows.push_title_end.Given as goal

abbrev pub invariant-loop-general : goal.invariant-loop-general
invariant-loop-general l = string_bytes l.out ≡ string_bytes l.fn.out ++ path_words (take l.general-index l.generals)

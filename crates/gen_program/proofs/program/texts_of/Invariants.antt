use Rattle.std.proofs.Common.{◌≡◌, map, string_bytes, take, vec_len, vec_capacity}
use Rattle.gen_program.proofs.program.texts_of.Given as goal

abbrev pub invariant-loop-word : goal.invariant-loop-word
invariant-loop-word l = record {
  texts : map (λ w. w.now) l.words.items ≡ map (λ w. string_bytes w) (take l.word-index l.given);
  count : vec_len l.words ≡ l.word-index;
  capacity : vec_capacity l.words ≡ vec_capacity l.initial.words;
}

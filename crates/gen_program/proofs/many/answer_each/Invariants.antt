use Rattle.std.proofs.Common.{◌≡◌, vec_capacity, vec_len}
use Rattle.std.specs.List.{All}
use Rattle.gen_program.specs.Ends.{IsEnd, IsOpen}
use Rattle.gen_program.proofs.many.answer_each.Given as goal

abbrev pub invariant-loop-source : goal.invariant-loop-source
invariant-loop-source g l = record {
  each : All IsEnd l.ends.items;
  unclosed : All IsOpen l.ends.items;
  count : vec_len l.ends ≡ l.source-index;
  capacity : vec_capacity l.ends ≡ vec_capacity l.initial.ends;
}

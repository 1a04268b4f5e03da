use Rattle.std.proofs.Common.{◌+◌, ◌∙◌, ap, arith}
use Rattle.gen_program.specs.Ends.{IsEnd, IsOpen}
use Rattle.gen_program.proofs.Ended.{cut_short, ends_more}
use Rattle.gen_program.proofs.many.answer_each.Goals as goal

pub returns-then-ended : goal.returns-then-ended
returns-then-ended g c =
    cut_short _ c.loop-source.ends.items c.push_reserved.new.self.items c.answer_one-ended.result c.push_reserved.ensures.items
    (omega (arith, c.push_reserved.ensures.len, c.loop-source.invariant.count, c.loop-source-test.true)) c.loop-source.invariant.each c.loop-source.invariant.unclosed c.answer_one-ended.ensures c.if-ended.true

pub loop-source-preserved : goal.loop-source-preserved
loop-source-preserved g c = record {
  each = ends_more IsEnd c.loop-source.ends.items c.push_reserved.new.self.items c.answer_one-ended.result c.push_reserved.ensures.items c.loop-source.invariant.each c.answer_one-ended.ensures;
  unclosed = ends_more IsOpen c.loop-source.ends.items c.push_reserved.new.self.items c.answer_one-ended.result c.push_reserved.ensures.items c.loop-source.invariant.unclosed c.if-ended.false;
  count = c.push_reserved.ensures.len ∙ ap (λ n. n + 1) c.loop-source.invariant.count;
  capacity = c.push_reserved.ensures.capacity ∙ c.loop-source.invariant.capacity;
}

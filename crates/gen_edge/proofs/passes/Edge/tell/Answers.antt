use Rattle.std.proofs.Common.{◌∙◌, ap}
use Rattle.crossbeam_queue.specs.Passes.{view}
use Rattle.gen_edge.specs.declared.rule.PassView.{PassView}
use Rattle.gen_edge.proofs.Steps.{tells_puts, tells_takes, hears_puts, hears_takes}
use Rattle.gen_edge.proofs.passes.Edge.tell.Goals as goal

pub another-puts-requires-clause-rule : goal.another-puts-requires-clause-rule
another-puts-requires-clause-rule c = tells_puts _ _ c.requires.0.1

pub absorb-requires-clause-rule : goal.absorb-requires-clause-rule
absorb-requires-clause-rule c = let take = c.args.take.now.pass in let news = c.another-puts.result in hears_puts take.id (view take) news.id (view news)

pub another-takes-requires-clause-rule : goal.another-takes-requires-clause-rule
another-takes-requires-clause-rule c = tells_takes _ _ (ap (λ (y : PassView). y.takes) c.absorb.ensures.rule ∙ c.requires.1.1)

pub absorb-requires-2-clause-rule : goal.absorb-requires-2-clause-rule
absorb-requires-2-clause-rule c = let put = c.another-puts.new.pass in let news = c.another-takes.result in hears_takes put.id (view put) news.id (view news)

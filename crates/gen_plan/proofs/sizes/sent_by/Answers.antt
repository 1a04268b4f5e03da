use Rattle.std.proofs.Common.{◌*◌, inr, refl, ap, ◌∙◌, arith}
use Rattle.gen_plan.proofs.sizes.sent_by.Goals as goal

pub returns-in-None-clause-value : goal.returns-in-None-clause-value
returns-in-None-clause-value c =
    let n = c.neighbours_of-neighbours.result in
    record {
      neighbours = c.neighbours_of-neighbours.result;
      counted = c.neighbours_of-neighbours.ensures.value;
      message = 0;
      sent = inr (rw c.requires.rounds at c.in-None.ensures.none, refl);
      total = ap (λ k. n * k * 41) (c.from.ensures ∙ c.requires.rounds) ∙ omega arith;
    }

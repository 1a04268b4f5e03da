use Rattle.std.proofs.Common.{arith, rules}
use Rattle.gen_system.proofs.Apart.{apart_told}
use Rattle.gen_system.proofs.systems.System.new.Goals as goal

pub invariant_of-result : goal.invariant_of-result
invariant_of-result c = record {
  header = c.slot.ensures.header;
  slot = search rules;
  apart = apart_told _ (search rules);
  few = omega (arith, c.if-levels-gt-MOST_LEVELS.false);
  context = search rules;
}

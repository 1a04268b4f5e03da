use Rattle.std.proofs.Common.{[]}
use Rattle.gen_core.specs.Sending.{Appends}
use Rattle.gen_core.specs.Loops.Pushing.{GoesUpTo}
use Rattle.gen_core.proofs.Due.{DueRows}
use Rattle.gen_core.proofs.sending.sends.Given as goal

abbrev pub invariant-loop-number : goal.invariant-loop-number
invariant-loop-number l = record {
  exactly : Appends (DueRows l.net l.me l.adds l.number) [] l.out.items;
  order : GoesUpTo l.out.items l.number 0;
}

use Rattle.gen_core.specs.Sending.{Appends}
use Rattle.gen_core.specs.Loops.Pushing.{IsDueBelow, GoesUpTo}
use Rattle.gen_core.proofs.sending.push_due.Given as goal

abbrev pub invariant-loop-number : goal.invariant-loop-number
invariant-loop-number l = record {
  exactly : Appends (IsDueBelow l.net l.me l.adds l.to l.number) l.initial.out.items l.out.items;
  order : GoesUpTo l.out.items l.to l.number;
}

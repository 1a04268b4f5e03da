use Rattle.std.specs.Prelude.{Any}
use Rattle.gen_threads.specs.Edges.{ArePassesIn}
use Rattle.gen_threads.specs.Faults.{HasLastWord}
use Rattle.gen_threads.proofs.stopping.stop.Given as goal

abbrev pub invariant-loop : goal.invariant-loop
invariant-loop g l =
    (goal.iterator-loop g).can_next l.iterator' × (goal.iterator-loop g).is_finite l.iterator' × ArePassesIn l.edges l.net l.me l.puts.items l.takes.items
    × (Any HasLastWord l.initial.takes.items → Any HasLastWord l.takes.items)

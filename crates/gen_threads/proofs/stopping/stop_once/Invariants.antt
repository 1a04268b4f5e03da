use Rattle.std.proofs.Common.{◌≡◌, true}
use Rattle.std.specs.Prelude.{Any}
use Rattle.gen_net.specs.Network.{rounds}
use Rattle.gen_threads.specs.Edges.{ArePassesIn}
use Rattle.gen_threads.specs.Faults.{HasLastWord}
use Rattle.gen_threads.specs.Turns.{AreOverUntil, index_of_next}
use Rattle.gen_threads.proofs.stopping.stop_once.Given as goal

abbrev pub invariant-near : goal.invariant-near
invariant-near g l = record {
  here : l.index ≡ index_of_next l.net l.me l.number;
  passes : ArePassesIn l.edges l.net l.me l.puts.items l.takes.items;
  kept : Any HasLastWord l.initial.takes.items → Any HasLastWord l.takes.items;
  over : l.over ≡ true → AreOverUntil (rounds l.net) l.index l.puts.items l.takes.items;
}

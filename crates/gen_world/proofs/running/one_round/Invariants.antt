use Rattle.std.proofs.Common.{◌≡◌, ◌+◌, All, take, drop}
use Rattle.gen_world.specs.Loops.Rounds.{IsReady, AreRelays, numbers_of}
use Rattle.gen_world.proofs.running.one_round.Given as goal

abbrev pub invariant-loop-lieutenant : goal.invariant-loop-lieutenant
invariant-loop-lieutenant l = record {
  numbers : numbers_of l.lieutenants ≡ numbers_of l.initial.lieutenants;
  done : All (IsReady l.net l.before (l.gone + 1)) (take l.lieutenant-index l.lieutenants);
  ready : All (IsReady l.net l.before l.gone) (drop l.lieutenant-index l.lieutenants);
  sent : AreRelays l.net l.before (l.gone + 1) (take l.lieutenant-index (numbers_of l.initial.lieutenants)) l.next.items;
}

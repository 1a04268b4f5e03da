use Rattle.std.proofs.Common.{◌≡◌, ◌+◌, ◌∷◌, All}
use Rattle.std.specs.List.{range_with_len}
use Rattle.gen_net.specs.Run.{Run, IsRun}
use Rattle.gen_world.specs.Loops.Rounds.{IsReady, numbers_of}
use Rattle.gen_scenario.proofs.Growing.{WorldTo}
use Rattle.gen_world.proofs.running.run_plain.Given as goal

abbrev pub invariant-loop-number : goal.invariant-loop-number
invariant-loop-number l = record {
  numbers : 0 ∷ numbers_of l.lieutenants.items ≡ range_with_len 0 l.number;
  ready : (run : Run) → IsRun l.net run → All (IsReady l.net run 0) l.lieutenants.items;
}

abbrev pub invariant-loop-gone : goal.invariant-loop-gone
invariant-loop-gone l = record {
  world : WorldTo l.net l.commander l.messages.items (l.gone + 1);
  ready : All (IsReady l.net l.messages.items l.gone) l.lieutenants.items;
  numbers : 0 ∷ numbers_of l.lieutenants.items ≡ range_with_len 0 l.net.generals;
}

use Rattle.std.proofs.Common.{◌≡◌, ◌∷◌, All, map, take}
use Rattle.gen_net.specs.Network.{Network}
use Rattle.gen_net.specs.Run.{Run}
use Rattle.gen_core.specs.Seeing.{HasSeen}
use Rattle.gen_scenario.specs.World.{IsDecision}
use Rattle.gen_world.specs.Loops.Rounds.{numbers_of}
use Rattle.gen_scenario.specs.declared.scenario.Decision.{Decision}
use Rattle.gen_world.proofs.running.decisions.Given as goal

abbrev pub invariant-loop-lieutenant : goal.invariant-loop-lieutenant
invariant-loop-lieutenant l = record {
  generals : map (λ (decision : Decision). decision.general) l.out.items ≡ 0 ∷ take l.lieutenant-index (numbers_of l.lieutenants);
  each : (net : Network) (run : Run) → All (HasSeen net run) l.lieutenants → All (IsDecision net l.commander run) l.out.items;
}

use Rattle.std.proofs.Common.{◌≡◌, ◌+◌, ◌≤◌, ◌<◌, ℕ, slice_index_or}
use Rattle.gen_scenario.specs.SignedWorld.{heard_by}
use Rattle.gen_chain.specs.Store.{Serves}
use Rattle.gen_scenario.specs.Scenario.{header_of}
use Rattle.gen_general.specs.Participant.{Participant}
use Rattle.gen_general.specs.ParticipantLaws.{IsIn}
use Rattle.gen_scenario.specs.AllAre.{AllAre}
use Rattle.gen_world.proofs.world_decisions.hear_all.Given as goal

abbrev pub invariant-receivers : goal.invariant-receivers
invariant-receivers l = record {
  all : AllAre (IsIn l.scenario l.gone) l.scenario.net.generals l.parts.items;
  done : (g : ℕ) (d : Participant) → g < l.number → (slice_index_or l.parts.items g d).heard ≡ heard_by l.scenario (l.gone + 1) g;
  rest : (g : ℕ) (d : Participant) → l.number ≤ g → g < l.scenario.net.generals → (slice_index_or l.parts.items g d).heard ≡ heard_by l.scenario l.gone g;
  serves : Serves (header_of l.scenario) l.store;
}

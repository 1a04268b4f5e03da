use Rattle.std.proofs.Common.{◌≡◌, ◌≢◌, ◌++◌, ℕ, slice_index_or}
use Rattle.std.specs.List.{range_with_len}
use Rattle.gen_chain.specs.Store.{Serves}
use Rattle.gen_scenario.specs.Scenario.{header_of}
use Rattle.gen_general.specs.Participant.{Participant}
use Rattle.gen_general.specs.ParticipantLaws.{IsIn}
use Rattle.gen_general.specs.Driving.{hears_of}
use Rattle.gen_scenario.specs.AllAre.{AllAre}
use Rattle.gen_scenario.specs.SignedWorld.{near_of}
use Rattle.gen_world.proofs.world_decisions.hear_all_of.Given as goal

abbrev pub invariant-senders : goal.invariant-senders
invariant-senders l = record {
  all : AllAre (IsIn l.scenario l.gone) l.scenario.net.generals l.parts.items;
  heard : (d : Participant) → (slice_index_or l.parts.items l.to d).heard ≡ (slice_index_or l.initial.parts.items l.to d).heard ++ hears_of l.scenario l.gone l.to (near_of l.scenario.net l.to (range_with_len 0 l.number));
  others : (g : ℕ) (d : Participant) → g ≢ l.to → slice_index_or l.parts.items g d ≡ slice_index_or l.initial.parts.items g d;
  serves : Serves (header_of l.scenario) l.store;
}

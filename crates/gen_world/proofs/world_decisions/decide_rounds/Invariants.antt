use Rattle.std.proofs.Common.{◌≡◌, ◌≤◌, ◌<◌, ℕ, length, slice_index_or, vec_capacity, vec_len}
use Rattle.gen_general.specs.Participant.{Participant}
use Rattle.gen_general.specs.Driving.{StandsAfter, AllStand}
use Rattle.gen_chain.specs.Store.{Serves}
use Rattle.gen_scenario.specs.Scenario.{header_of}
use Rattle.gen_scenario.specs.SignedWorld.{heard_by}
use Rattle.gen_general.specs.ParticipantLaws.{IsIn}
use Rattle.gen_world.proofs.world_decisions.decide_rounds.Given as goal

abbrev pub invariant-generals : goal.invariant-generals
invariant-generals l = record {
  count : length l.parts.items ≡ l.number;
  len : vec_len l.parts ≡ l.number;
  room : l.generals ≤ vec_capacity l.parts;
  each : (g : ℕ) (d : Participant) → g < l.number → StandsAfter l.scenario 0 g (slice_index_or l.parts.items g d);
}

abbrev pub invariant-rounds : goal.invariant-rounds
invariant-rounds l = record {
  all : AllStand l.scenario l.gone l.parts.items;
  serves : Serves (header_of l.scenario) l.store;
}

abbrev pub invariant-parts : goal.invariant-parts
invariant-parts l = record {
  count : length l.parts.items ≡ l.scenario.net.generals;
  done : (g : ℕ) (d : Participant) → g < l.index → IsIn l.scenario l.gone g (slice_index_or l.parts.items g d) × ((slice_index_or l.parts.items g d).heard ≡ heard_by l.scenario l.gone g);
  rest : (g : ℕ) (d : Participant) → l.index ≤ g → g < l.scenario.net.generals → StandsAfter l.scenario l.gone g (slice_index_or l.parts.items g d);
}

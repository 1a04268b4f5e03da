-- All generals of a scenario together, round by round.
use Rattle.std.specs.Prelude.{ℕ, ◌≡◌, ◌+◌, not, List, map, filter}
use Rattle.std.specs.List.{range_with_len, flat_map}
use Rattle.gen_scenario.specs.declared.heard.Heard.{Heard}
use Rattle.gen_scenario.specs.declared.scenario.Decision.{Decision}
use Rattle.gen_scenario.specs.Scenario.{Scenario, has_script}
use Rattle.gen_scenario.specs.SignedWorld.{heard_of, heard_by}
use Rattle.gen_scenario.specs.AllAre.{AllAre}
use Rattle.gen_scenario.specs.Deciding.{decision_of}
use Rattle.gen_scenario.specs.Rows.{FrameRow, row_at, rows_by, rows_in}
use Rattle.gen_general.specs.Participant.{Participant}
use Rattle.gen_general.specs.ParticipantLaws.{IsGeneralOf, IsIn}

-- the participant has the state of this general of the scenario after the first k rounds
pub record StandsAfter (s : Scenario) (k g : ℕ) (p : Participant) : Type 0 where
  pub part : IsGeneralOf s g p
  pub heard : p.heard ≡ heard_by s k g
  pub round : p.round ≡ k

abbrev pub AllStand : Scenario → ℕ → List Participant → Type 0
AllStand s k = AllAre (StandsAfter s k) s.net.generals

-- all generals have begun round k + 1, and nobody has heard a frame of it
abbrev pub AllBegun : Scenario → ℕ → List Participant → Type 0
AllBegun s k = AllAre (λ g p. IsIn s k g p × (p.heard ≡ heard_by s k g)) s.net.generals

-- what a general hears from these senders in round k + 1
abbrev pub hears_of : Scenario → ℕ → ℕ → List ℕ → List Heard
hears_of s k to froms = flat_map (heard_of s (heard_by s k) (k + 1) to) froms

-- the frames of round k + 1 from one general to these receivers
abbrev pub rows_for : Scenario → ℕ → ℕ → List ℕ → List FrameRow
rows_for s k from tos = map (row_at s (k + 1) from) tos

-- the frames of the first n generals in round k + 1, and the frames of the first k rounds
unfoldable pub rows_first : Scenario → ℕ → ℕ → List FrameRow
rows_first s k n = flat_map (rows_by s (k + 1)) (range_with_len 0 n)

unfoldable pub rows_until : Scenario → ℕ → List FrameRow
rows_until s k = flat_map (rows_in s) (range_with_len 1 k)

-- the decisions of those of these generals that have no script
abbrev pub decided_of : Scenario → List ℕ → List Decision
decided_of s gs = map (decision_of s) (filter (λ g. not (has_script s g)) gs)

-- What the run of a scenario gives: its frames in a fixed order, the decisions, and all logs.
use Rattle.std.specs.Prelude.{ℕ, List, map}
use Rattle.std.specs.List.{range_with_len, flat_map}
use Rattle.gen_net.specs.Network.{rounds}
use Rattle.gen_log.specs.Writing.{LogBytes}
use Rattle.gen_scenario.specs.declared.scenario.Decision.{Decision}
use Rattle.gen_scenario.specs.Scenario.{Scenario}
use Rattle.gen_scenario.specs.SignedWorld.{neighbours_of, frame_at}
use Rattle.gen_scenario.specs.WorldLogs.{logs_of}
use Rattle.gen_scenario.specs.WorldLogs.{log_bytes}

-- a frame: its round, its sender, its receiver, and its parcels
pub record FrameRow : Type 0 where
  pub round : ℕ
  pub from : ℕ
  pub to : ℕ
  pub parcels : List (List ℕ)

abbrev pub row_at : Scenario → ℕ → ℕ → ℕ → FrameRow
row_at s round from to = record { round = round; from = from; to = to; parcels = frame_at s round from to }

-- the frames of a general in a round, in ascending order of receivers
abbrev pub rows_by : Scenario → ℕ → ℕ → List FrameRow
rows_by s round from = map (row_at s round from) (neighbours_of s.net from)

-- all frames of a round, in ascending order of senders
unfoldable pub rows_in : Scenario → ℕ → List FrameRow
rows_in s round = flat_map (rows_by s round) (range_with_len 0 s.net.generals)

-- all frames, round by round
unfoldable pub rows_of : Scenario → List FrameRow
rows_of s = flat_map (rows_in s) (range_with_len 1 (rounds s.net))

-- the bytes of all logs, in ascending order of generals, a second log after the first
unfoldable pub logs_of_all : Scenario → List LogBytes
logs_of_all s = flat_map (λ g. map (log_bytes g) (logs_of s g)) (range_with_len 0 s.net.generals)

-- the frames of a run, the decisions of the generals without scripts, and the logs of all generals
pub record WorldRun : Type 0 where
  pub frames : List FrameRow
  pub decisions : List Decision
  pub logs : List LogBytes

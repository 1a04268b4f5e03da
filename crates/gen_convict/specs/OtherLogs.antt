-- Logs that verify as sealed by a general and differ from the log that the general kept.
use Rattle.std.specs.Prelude.{ℕ, ◌≢◌, List}
use Rattle.gen_net.specs.Header.{RunHeader}
use Rattle.gen_log.specs.Log.{RunLog}
use Rattle.gen_convict.specs.Accused.{TextVerifies}
use Rattle.gen_convict.specs.Contradictions.{IsSealedLogOf}
use Rattle.gen_convict.specs.LinkTexts.{LogsCollide}
use Rattle.gen_convict.specs.Refuting.{HasText, IsHeadIn, Refutation, Forged, Collision}

-- the bytes are a log that says it is the general's of this run, its head verifies, and its entries are not
-- those of the general's own log
abbrev pub IsOtherLog : RunHeader → ℕ → RunLog → List ℕ → Type 0
IsOtherLog h general own bytes =
    (log : RunLog) × IsSealedLogOf h general bytes log × (log.entries ≢ own.entries)

-- the answer to such a log: its head, which verifies and isn't the head of the general's own log, or texts of
-- links of both logs that collide
abbrev pub IsAnswerToLog : RunHeader → ℕ → RunLog → List ℕ → Refutation → Type 0
IsAnswerToLog h general own bytes (Forged text) =
    IsHeadIn h general bytes text × TextVerifies h general text × (HasText h general own text.text → ⊥)
IsAnswerToLog h general own bytes (Collision a b) = LogsCollide h general own bytes a b

-- Every log of a scenario verifies, including the logs of traitors and their second logs, and none is too
-- long for a bundle.
use Rattle.std.specs.Prelude.{ℕ, ◌<◌, ◌^◌, Contains, length}
use Rattle.gen_log.specs.Log.{RunLog, log_spelling}
use Rattle.gen_log.specs.Verifying.{LogVerifies}
use Rattle.gen_scenario.specs.Scenario.{Scenario, IsScenario, header_of}
use Rattle.gen_scenario.specs.WorldLogs.{logs_of}

-- each log that a general has is a log of this run, whose signatures and head verify
abbrev pub AllVerify : Type 0
AllVerify =
    (s : Scenario) → IsScenario s → (g : ℕ) → g < s.net.generals
    → (log : RunLog) → Contains (logs_of s g) log → LogVerifies (header_of s) g log

-- each of a general's logs has fewer than 2 to the power of 32 bytes
abbrev pub AllShort : Type 0
AllShort =
    (s : Scenario) → IsScenario s → (g : ℕ) → g < s.net.generals
    → (log : RunLog) → Contains (logs_of s g) log → length (log_spelling log) < 2 ^ 32

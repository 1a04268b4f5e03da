-- Opened exhibits: what their bytes are, before signatures and links are looked at.
use Rattle.std.specs.Prelude.{ℕ, ◌≡◌, List, [], ◌∷◌, map, Ok, Err}
use Rattle.std.specs.List.{flat_map}
use Rattle.gen_net.specs.Header.{RunHeader}
use Rattle.gen_log.specs.Log.{RunLog, IsLog, log_spelling}
use Rattle.gen_log.specs.LogReading.{log_of}
use Rattle.gen_log.specs.Texts.{GeneralsLog}
use Rattle.gen_log.specs.Verifying.{SaysItIsOf}
use Rattle.gen_local.specs.declared.opening.Opening.{Opening}
use Rattle.gen_local.specs.declared.opening.Opening.TheVariants.{Unreadable, Foreign, Own}
use Rattle.gen_local.specs.declared.opening.Opened.{Opened}
use Rattle.gen_log.specs.Writing.{LogBytes}

-- the bytes are this log, and it says that it is the general's of this run
pub record IsOwnLog (h : RunHeader) (general : ℕ) (bytes : List ℕ) (log : RunLog) : Type 0 where
  pub read : log_of h bytes ≡ Ok log
  pub fits_run : IsLog h log
  pub spelled : bytes ≡ log_spelling log
  pub says : SaysItIsOf h general log

-- the bytes are a log that doesn't say that it is the general's of this run
pub record IsForeign (h : RunHeader) (general : ℕ) (bytes : List ℕ) : Type 0 where
  pub log : RunLog
  pub read : log_of h bytes ≡ Ok log
  pub other : SaysItIsOf h general log → ⊥

-- the opening says what the bytes are: unreadable, a log of another run or general, or the general's log of
-- this run
abbrev pub IsOpening : RunHeader → ℕ → List ℕ → Opening → Type 0
IsOpening h general bytes (Unreadable fault) = log_of h bytes ≡ Err fault
IsOpening h general bytes Foreign = IsForeign h general bytes
IsOpening h general bytes (Own log) = IsOwnLog h general bytes log

-- the opening of the exhibit says what its bytes are
abbrev pub IsOpened : RunHeader → Opened → Type 0
IsOpened h o = IsOpening h o.exhibit.general o.exhibit.bytes o.opening

-- the log with its general, if the bytes are a log of this general and run; else no log
abbrev pub own_logs : ℕ → Opening → List GeneralsLog
own_logs general (Own log) = record { general = general; log = log } ∷ []
own_logs general _ = []

abbrev pub logs_of : Opened → List GeneralsLog
logs_of o = own_logs o.exhibit.general o.opening

-- the logs of opened exhibits, and the exhibits themselves, in the order of these
abbrev pub logs_in : List Opened → List GeneralsLog
logs_in opened = flat_map logs_of opened

abbrev pub exhibits_of : List Opened → List LogBytes
exhibits_of opened = map (λ o. o.exhibit) opened

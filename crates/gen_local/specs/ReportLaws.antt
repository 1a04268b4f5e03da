-- Laws of reports.
use Rattle.std.specs.Prelude.{ℕ, ◌≡◌, ◌↔◌, true, None, Ok}
use Rattle.gen_net.specs.Header.{RunHeader}
use Rattle.gen_net.specs.Departs.{IsFollowersLog}
use Rattle.gen_log.specs.Log.{RunLog}
use Rattle.gen_log.specs.LogReading.{log_of}
use Rattle.gen_log.specs.Verifying.{LogVerifies}
use Rattle.gen_local.specs.declared.reading.Reading.TheVariants.{Own}
use Rattle.gen_local.specs.Erased.{erased}
use Rattle.gen_local.specs.FoundLog.{FoundLog}
use Rattle.gen_local.specs.Report.{LocalReport, IsReport}

-- an exhibit has one report under a header
abbrev pub OneReport : Type 0
OneReport =
    (r s : LocalReport) → IsReport r → IsReport s → r.header ≡ s.header → r.exhibit ≡ s.exhibit → r ≡ s

-- nothing is found against the log: all its signatures verify, and it departs nowhere
pub record IsFaultless (found : FoundLog) : Type 0 where
  pub signed : found.unsigned ≡ None
  pub sealed : found.sealed ≡ true
  pub follows : found.departure ≡ None

-- nothing is found against the exhibit: it is a log of its general and run, and nothing is found against the
-- log
abbrev pub FindsNothing : LocalReport → Type 0
FindsNothing r = (found : FoundLog) × (r.reading ≡ Own found) × IsFaultless found

-- the log verifies for the general, and the general could keep it
pub record IsGood (h : RunHeader) (general : ℕ) (log : RunLog) : Type 0 where
  pub verifies : LogVerifies h general log
  pub follows : IsFollowersLog h.network general (erased log.entries)

-- nothing is found against an exhibit if and only if its bytes are a log that verifies for its general and
-- that the general could keep
abbrev pub FindsNothingInGoodLogs : Type 0
FindsNothingInGoodLogs =
    (r : LocalReport) → IsReport r
    → FindsNothing r
    ↔ ((log : RunLog) × (log_of r.header r.exhibit.bytes ≡ Ok log)
    × IsGood r.header r.exhibit.general log)

-- What the report of an exhibit is. An exhibit is a general, and bytes that are said to be that general's log
-- of a run.
use Rattle.std.specs.Prelude.{ℕ, ◌≡◌, List, map, All, Result, Ok, Err}
use Rattle.gen_net.specs.Header.{RunHeader}
use Rattle.gen_log.specs.declared.fault.LogFault.{LogFault}
use Rattle.gen_log.specs.Log.{RunLog}
use Rattle.gen_log.specs.LogReading.{log_of}
use Rattle.gen_log.specs.Verifying.{SaysItIsOf}
use Rattle.gen_local.specs.declared.reading.Reading.{Reading}
use Rattle.gen_local.specs.declared.reading.Reading.TheVariants.{Unreadable, Foreign, Own}
use Rattle.gen_log.specs.Writing.{LogBytes}
use Rattle.gen_local.specs.FoundLog.{FoundLog, IsFound}

-- The reading is one of three. The bytes don't read, with their fault. Or they are a log of another run, or
-- one whose START names another general. Or they are a log of this run and general, with what is found in it.
abbrev pub IsReading : RunHeader → ℕ → Result RunLog LogFault → Reading → Type 0
IsReading h general (Err fault) reading = reading ≡ Unreadable fault
IsReading h general (Ok log) (Unreadable fault) = ⊥
IsReading h general (Ok log) Foreign = SaysItIsOf h general log → ⊥
IsReading h general (Ok log) (Own found) = (found.log ≡ log) × IsFound h general found

-- the header of the run, the exhibit, and its reading
pub record LocalReport : Type 0 where
  pub header : RunHeader
  pub exhibit : LogBytes
  pub reading : Reading

-- the report is that of the exhibit that it names, under the header that it names
abbrev pub IsReport : LocalReport → Type 0
IsReport r =
    IsReading r.header r.exhibit.general (log_of r.header r.exhibit.bytes) r.reading

-- the reports are those of the exhibits under the header, in the order of the exhibits
pub record AreReportsOf (h : RunHeader) (shown : List LogBytes) (reports : List LocalReport) : Type 0 where
  pub exhibits : map (λ r. r.exhibit) reports ≡ shown
  pub header : All (λ r. r.header ≡ h) reports
  pub each : All IsReport reports

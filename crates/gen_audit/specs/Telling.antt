-- The reports of a bundle's exhibits tell its logs, so the logs can be matched by their reports.
use Rattle.std.specs.Prelude.{ℕ, ◌≡◌, List, map, Contains}
use Rattle.gen_local.specs.Report.{LocalReport, IsReport}
use Rattle.gen_match.specs.Reports.{told_logs}
use Rattle.gen_audit.specs.Bundle.{Bundle, logs_of}

-- the reports are those of the bundle's exhibits, in their order, under the bundle's header; and such reports
-- tell the logs of the bundle
pub record AreReports (b : Bundle) (reports : List LocalReport) : Type 0 where
  pub exhibits : map (λ r. r.exhibit) reports ≡ b.exhibits
  pub header : (r : LocalReport) → Contains reports r → r.header ≡ b.header
  pub each : (r : LocalReport) → Contains reports r → IsReport r

abbrev pub ReportsTellLogs : Type 0
ReportsTellLogs =
    (b : Bundle) (reports : List LocalReport) → AreReports b reports → (g : ℕ)
    → told_logs reports g ≡ logs_of b g

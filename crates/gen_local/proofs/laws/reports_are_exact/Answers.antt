use Rattle.gen_local.proofs.GoodLogs.{finds_nothing}
use Rattle.gen_local.proofs.OneReport.{one_report}
use Rattle.gen_local.proofs.laws.reports_are_exact.Goals as goal

pub returns-clause-one : goal.returns-clause-one
returns-clause-one c = one_report

pub returns-clause-nothing : goal.returns-clause-nothing
returns-clause-nothing c = finds_nothing

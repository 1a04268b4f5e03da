use Rattle.std.proofs.Common.{◌≡◌, ◌++◌, List, length}
use Rattle.gen_chain.specs.Store.{Serves, KeepsAll}
use Rattle.gen_local.specs.Report.{AreReportsOf}
use Rattle.gen_log.specs.Writing.{LogBytes}
use Rattle.gen_local.proofs.grouping.local_reports_among.Given as goal

abbrev pub invariant-groups : goal.invariant-groups
invariant-groups g l = record {
  serves : Serves l.header l.store;
  grows : KeepsAll l.fn.store l.store;
  done : (before : List LogBytes) × (l.exhibits ≡ before ++ l.rest) × AreReportsOf l.header before l.reports.items;
}

abbrev pub decreases-groups : goal.decreases-groups
decreases-groups g l = length l.rest

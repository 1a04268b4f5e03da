use Rattle.std.proofs.Common.{◌≡◌, ◌++◌, List, length}
use Rattle.gen_local.specs.Report.{AreReportsOf}
use Rattle.gen_log.specs.Writing.{LogBytes}
use Rattle.gen_audit.specs.Loops.Hands.{AreHands}
use Rattle.gen_audit.proofs.merging.merged.Given as goal

abbrev pub invariant-rounds : goal.invariant-rounds
invariant-rounds l =
    AreHands l.header l.rest l.last l.hands.items
    × ((before : List LogBytes) × (l.exhibits ≡ before ++ l.rest) × AreReportsOf l.header before l.reports.items)

abbrev pub decreases-rounds : goal.decreases-rounds
decreases-rounds l = length l.rest

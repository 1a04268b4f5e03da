use Rattle.std.proofs.Common.{◌≤◌, ◌*◌}
use Rattle.gen_plan.specs.Sizes.{IsSentBelow}
use Rattle.gen_plan.proofs.sizes.run_bytes.Given as goal

abbrev pub invariant-loop-number : goal.invariant-loop-number
invariant-loop-number l = IsSentBelow l.fn.height l.graph l.number l.total × (l.total ≤ l.number * 2199023255552)

use Rattle.std.proofs.Common.{◌≡◌, ◌≤◌, take}
use Rattle.gen_combine.specs.Combined as known
use Rattle.gen_combine.proofs.counting.count_of.Given as goal

abbrev pub invariant-values : goal.invariant-values
invariant-values l =
    (l.count ≤ l.other-index) × (l.count ≡ known.count_of (take l.other-index l.decided) l.value)

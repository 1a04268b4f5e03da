use Rattle.std.proofs.Common.{◌≡◌, ◌≤◌, take}
use Rattle.gen_combine.specs.Combined as known
use Rattle.gen_combine.proofs.counting.count_up_to.Given as goal

abbrev pub invariant-values : goal.invariant-values
invariant-values l =
    (l.count ≤ l.value-index) × (l.count ≡ known.count_up_to (take l.value-index l.decided) l.number)
    × (15 ≤ l.number → l.count ≡ l.value-index)

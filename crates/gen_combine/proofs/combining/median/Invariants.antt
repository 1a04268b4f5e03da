use Rattle.std.proofs.Common.{ℕ, ◌<◌, ◌-◌, ◌≤◌}
use Rattle.gen_combine.specs.Combined.{ReachesHalf}
use Rattle.gen_combine.proofs.combining.median.Given as goal

abbrev pub invariant-rising : goal.invariant-rising
invariant-rising l = (l.number ≤ 15) × ((w : ℕ) → w < l.number → ReachesHalf l.decided w → ⊥)

abbrev pub decreases-rising : goal.decreases-rising
decreases-rising l = 15 - l.number

use Rattle.std.proofs.Common.{◌≡◌, ◌<◌, ◌+◌, ◌*◌, ◌^◌, length}
use Rattle.gen_draw.specs.Several.{bottom_from, widest_from}
use Rattle.gen_draw.proofs.several.extent_of.Given as goal

abbrev pub invariant-runs : goal.invariant-runs
invariant-runs l = record {
  width : widest_from l.width l.runs ≡ widest_from 0 l.bundles;
  bottom : bottom_from l.down l.runs ≡ bottom_from 0 l.bundles;
  room : l.down + 32768 * length l.runs < 2 ^ 31;
}

abbrev pub decreases-runs : goal.decreases-runs
decreases-runs l = length l.runs

use Rattle.std.proofs.Common.{◌≡◌, ◌<◌, ◌≤◌, ◌+◌, ◌*◌, ◌^◌, length}
use Rattle.gen_match.specs.Prefixes as keys
use Rattle.gen_match.proofs.prefixes.path_number.Given as goal

abbrev pub invariant-loop-general : goal.invariant-loop-general
invariant-loop-general l = record {
  value : keys.number_behind l.number l.rest ≡ keys.path_number l.path;
  room : l.count + length l.rest ≤ 16;
  below : l.number < 2 * 16 ^ l.count;
}

abbrev pub decreases-loop-general : goal.decreases-loop-general
decreases-loop-general l = length l.rest

use Rattle.std.proofs.Common.{◌≡◌, ◌<◌, ◌≤◌, ◌+◌, ◌*◌, ◌^◌, length, None}
use Rattle.std.specs.Option.{IfSome}
use Rattle.gen_match.specs.Underivables as finding
use Rattle.gen_match.proofs.derived.rest_begin.Given as goal

abbrev pub invariant-loop-general : goal.invariant-loop-general
invariant-loop-general l = record {
  value : finding.rest_begin l.header.network l.faulty l.number l.found l.rest ≡ finding.rest_begin l.header.network l.faulty 1 None l.path;
  room : l.count + length l.rest ≤ 16;
  below : l.number < 2 * 16 ^ l.count;
  found_below : IfSome l.found (λ number. number < 2 ^ 65);
}

abbrev pub decreases-loop-general : goal.decreases-loop-general
decreases-loop-general l = length l.rest

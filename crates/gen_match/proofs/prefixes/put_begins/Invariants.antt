use Rattle.std.proofs.Common.{◌≡◌, ◌<◌, ◌≤◌, ◌+◌, ◌*◌, ◌^◌, ◌++◌, length}
use Rattle.gen_match.specs.Prefixes.{begin_keys}
use Rattle.gen_match.proofs.prefixes.put_begins.Given as goal

abbrev pub invariant-loop-general : goal.invariant-loop-general
invariant-loop-general l = record {
  keys : l.numbers.items ++ begin_keys l.order l.len l.number l.rest ≡ l.initial.numbers.items ++ begin_keys l.order l.len 1 l.path;
  room : l.count + length l.rest ≤ 16;
  below : l.number < 2 * 16 ^ l.count;
}

abbrev pub decreases-loop-general : goal.decreases-loop-general
decreases-loop-general l = length l.rest

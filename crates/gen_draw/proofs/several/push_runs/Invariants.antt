use Rattle.std.proofs.Common.{◌≡◌, ◌<◌, ◌+◌, ◌*◌, ◌^◌, ◌++◌, length, string_bytes}
use Rattle.gen_draw.specs.Several.{runs_from}
use Rattle.gen_draw.proofs.several.push_runs.Given as goal

abbrev pub invariant-runs : goal.invariant-runs
invariant-runs l = record {
  text : string_bytes l.out ++ runs_from l.down l.runs l.rest ≡ string_bytes l.fn.out ++ runs_from 0 l.bundles l.judgements;
  room : l.down + 32768 * length l.runs < 2 ^ 31;
}

abbrev pub decreases-runs : goal.decreases-runs
decreases-runs l = length l.runs

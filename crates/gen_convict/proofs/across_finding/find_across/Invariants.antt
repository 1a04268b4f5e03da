use Rattle.std.proofs.Common.{◌≡◌, ◌++◌, ◌-◌, map, drop}
use Rattle.std.specs.List.{range_with_len}
use Rattle.gen_convict.specs.AcrossFinding.{accusations_across, runs_of}
use Rattle.gen_convict.specs.Evidence.{told_of}
use Rattle.gen_convict.specs.Seen.{seen_run}
use Rattle.gen_convict.proofs.across_finding.find_across.Given as goal

abbrev pub invariant-runs : goal.invariant-runs
invariant-runs l =
    map seen_run l.runs.items ++ runs_of (drop l.place l.headers) (map (λ v. v.items) (drop l.place l.reports)) ≡ runs_of l.headers (map (λ v. v.items) l.reports)

abbrev pub invariant-loop-number : goal.invariant-loop-number
invariant-loop-number l =
    map told_of l.found.items ++ accusations_across (map seen_run l.seen) (range_with_len l.number (16 - l.number)) ≡ accusations_across (map seen_run l.seen) (range_with_len 0 16)

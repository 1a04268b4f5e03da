use Rattle.std.proofs.Common.{◌≡◌, ◌-◌}
use Rattle.gen_types.proofs.ManyFields.{with_front}
use Rattle.gen_audit.specs.Behind.{many_behind}
use Rattle.gen_audit.specs.BundleMaking.{no_ends}
use Rattle.gen_audit.specs.BundleParts as parts
use Rattle.gen_audit.specs.BundleReading.{walk_at}
use Rattle.gen_audit.proofs.bundle_reading.read_walks.Given as goal

abbrev pub invariant-loop : goal.invariant-loop
invariant-loop l = with_front l.walks (many_behind (walk_at l.n) parts.ends_of l.before (l.count - l.counter) l.rest) ≡ many_behind (walk_at l.n) parts.ends_of no_ends l.count l.initial.rest

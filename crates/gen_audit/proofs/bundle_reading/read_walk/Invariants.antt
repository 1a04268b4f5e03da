use Rattle.std.proofs.Common.{◌≡◌, ◌-◌}
use Rattle.gen_types.specs.Bytes.{many_at}
use Rattle.gen_types.proofs.ManyFields.{with_front}
use Rattle.gen_audit.specs.BundleReading.{general_at}
use Rattle.gen_audit.proofs.bundle_reading.read_walk.Given as goal

abbrev pub invariant-loop : goal.invariant-loop
invariant-loop l = with_front l.generals.items (many_at (general_at l.n) (l.count - l.counter) l.rest) ≡ many_at (general_at l.n) l.count l.initial.rest

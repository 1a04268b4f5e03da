use Rattle.std.proofs.Common.{◌≡◌, ◌-◌}
use Rattle.gen_types.specs.Bytes.{many_at}
use Rattle.gen_types.proofs.ManyFields.{with_front}
use Rattle.gen_system.specs.AdmissionReading.{opened_at}
use Rattle.gen_system.proofs.admission_reading.read_each.Given as goal

abbrev pub invariant-loop : goal.invariant-loop
invariant-loop l = with_front l.opened.items (many_at (opened_at l.levels) (l.count - l.counter) l.rest) ≡ many_at (opened_at l.levels) l.count l.bytes

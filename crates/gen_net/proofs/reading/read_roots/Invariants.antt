use Rattle.std.proofs.Common.{◌≡◌, ◌-◌}
use Rattle.gen_types.specs.Bytes.{many_at}
use Rattle.gen_types.proofs.ManyFields.{with_front}
use Rattle.gen_net.specs.HeaderReading.{root_at}
use Rattle.gen_net.proofs.reading.read_roots.Given as goal

abbrev pub invariant-loop : goal.invariant-loop
invariant-loop l = with_front l.roots.items (many_at root_at (l.count - l.counter) l.rest) ≡ many_at root_at l.count l.bytes

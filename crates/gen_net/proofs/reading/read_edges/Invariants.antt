use Rattle.std.proofs.Common.{◌≡◌, ◌-◌}
use Rattle.gen_types.specs.Bytes.{many_at}
use Rattle.gen_types.proofs.ManyFields.{with_front}
use Rattle.gen_net.specs.NetworkReading.{edge_at}
use Rattle.gen_net.proofs.reading.read_edges.Given as goal

abbrev pub invariant-loop : goal.invariant-loop
invariant-loop l = with_front l.edges.items (many_at edge_at (l.count - l.counter) l.rest) ≡ many_at edge_at l.count l.initial.rest

use Rattle.std.proofs.Common.{◌≡◌, ◌-◌}
use Rattle.gen_types.specs.Bytes.{many_at}
use Rattle.gen_types.proofs.ManyFields.{with_front}
use Rattle.gen_node.specs.FrameReading.{parcel_at}
use Rattle.gen_node.proofs.frame_reading.read_parcels.Given as goal

abbrev pub invariant-loop : goal.invariant-loop
invariant-loop l = with_front l.parcels.items (many_at parcel_at (l.count - l.counter) l.rest) ≡ many_at parcel_at l.count l.bytes

use Rattle.std.proofs.Common.{◌≡◌, ◌-◌, length}
use Rattle.gen_types.specs.Bytes.{many_at}
use Rattle.gen_types.proofs.ManyFields.{with_front}
use Rattle.gen_enroll.specs.RootReading.{root_at}
use Rattle.gen_enroll.proofs.root_reading.roots_in_front.Given as goal

abbrev pub invariant-roots : goal.invariant-roots
invariant-roots l = record {
  read : with_front l.roots.items (many_at root_at (l.count - l.counter) l.rest) ≡ many_at root_at l.count l.bytes;
  count : length l.roots.items ≡ l.counter;
}

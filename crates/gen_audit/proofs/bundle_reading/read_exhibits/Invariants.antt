use Rattle.std.proofs.Common.{◌≡◌, ◌-◌}
use Rattle.std.specs.Arc.{arc_slice_items}
use Rattle.gen_types.proofs.ManyFields.{with_front}
use Rattle.gen_audit.specs.Behind.{many_behind}
use Rattle.gen_audit.specs.BundleMaking.{shown_general}
use Rattle.gen_audit.specs.BundleReading.{exhibit_at}
use Rattle.gen_audit.specs.Ends.{IsEndOf}
use Rattle.gen_audit.proofs.bundle_reading.read_exhibits.Given as goal

abbrev pub invariant-loop : goal.invariant-loop
invariant-loop l = record {
  read : with_front l.exhibits.items (many_behind (exhibit_at l.n) shown_general l.before (l.count - l.counter) l.rest) ≡ many_behind (exhibit_at l.n) shown_general 0 l.count l.initial.rest;
  end : IsEndOf (arc_slice_items l.input) l.rest;
}

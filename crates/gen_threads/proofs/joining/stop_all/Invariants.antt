use Rattle.std.proofs.Common.{◌≡◌, length}
use Rattle.gen_threads.specs.Works.{TurnsFrom}
use Rattle.gen_threads.proofs.joining.stop_all.Given as goal

abbrev pub invariant-loop : goal.invariant-loop
invariant-loop g l =
    (goal.iterator-loop g).can_next l.iterator' × (goal.iterator-loop g).is_finite l.iterator'
    × (length l.back.items ≡ length l.initial.back.items)
    × TurnsFrom l.field.edges.now l.field.scenario.now l.field.rings.now.value.items l.first l.back.items

abbrev pub invariant-turns : goal.invariant-turns
invariant-turns g l = record {
  count : length l.back.items ≡ length l.fn.back.items;
  turns : TurnsFrom l.field.edges.now l.field.scenario.now l.field.rings.now.value.items l.first l.back.items;
}

use Rattle.std.proofs.Common.{◌≡◌, ◌+◌, vec_capacity, vec_len}
use Rattle.std.specs.Vec.Iter.{into_iter_items, into_iter_len}
use Rattle.gen_threads.specs.HeldRings.{MayServe, ring_in}
use Rattle.gen_threads.specs.Works.{WorksFrom, PassesFrom}
use Rattle.gen_threads.proofs.Froms.{From}
use Rattle.gen_threads.proofs.HeldRings.{IsHandedIn}
use Rattle.gen_threads.proofs.works.make_works.Given as goal

abbrev pub invariant-works : goal.invariant-works
invariant-works l = record {
  count : vec_len l.works + into_iter_len l.passes-iterator ≡ l.scenario.net.generals;
  rings : vec_len l.works + into_iter_len l.others ≡ l.scenario.net.generals;
  room : vec_capacity l.works ≡ vec_capacity l.initial.works;
  left : PassesFrom l.edges l.scenario (vec_len l.works) (into_iter_items l.passes-iterator);
  held : From (IsHandedIn l.scenario l.fn.rings.items) (vec_len l.works) (into_iter_items l.others);
  made : WorksFrom l.edges l.scenario l.fn.rings.items 0 l.works.items;
}

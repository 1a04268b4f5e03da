use Rattle.std.proofs.Common.{◌≡◌, All, map}
use Rattle.std.specs.Vec.Iter.{into_iter_items}
use Rattle.gen_chain.specs.Store.{Serves, KeepsAll}
use Rattle.gen_local.specs.Endings.{ending_over}
use Rattle.gen_local.specs.Opened.{IsOpened, exhibits_of, logs_in}
use Rattle.gen_local.proofs.Grouped.{HavePut}
use Rattle.gen_local.proofs.grouping.put_group.Given as goal

abbrev pub invariant-loop-one : goal.invariant-loop-one
invariant-loop-one g l = record {
  serves : Serves l.header l.store;
  grows : KeepsAll l.fn.store l.store;
  opened : All (IsOpened l.header) (into_iter_items l.one-iterator);
  endings : l.rest ≡ map (ending_over l.header) (logs_in (into_iter_items l.one-iterator));
  done : HavePut l.header (l.exhibits) l.fn.reports.items (into_iter_items l.one-iterator) l.reports.items;
}

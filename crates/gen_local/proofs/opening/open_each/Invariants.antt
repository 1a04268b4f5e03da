use Rattle.std.proofs.Common.{◌≡◌, All, take}
use Rattle.gen_chain.specs.Store.{Serves, KeepsAll}
use Rattle.gen_local.specs.Opened.{IsOpened, exhibits_of}
use Rattle.gen_local.proofs.opening.open_each.Given as goal

abbrev pub invariant-exhibits : goal.invariant-exhibits
invariant-exhibits l = record {
  serves : Serves l.header l.store;
  grows : KeepsAll l.fn.store l.store;
  shown : exhibits_of l.opened.items ≡ take l.exhibit-index l.exhibits;
  opened : All (IsOpened l.header) l.opened.items;
}

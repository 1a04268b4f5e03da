use Rattle.std.proofs.Common.{take}
use Rattle.gen_net.specs.Departs.{Begins}
use Rattle.gen_local.specs.Erased.{erased}
use Rattle.gen_local.specs.Walking.State.{IsAfter}
use Rattle.gen_local.proofs.walking.departs_from.Given as goal

abbrev pub invariant-loop-index : goal.invariant-loop-index
invariant-loop-index l = record {
  begun : Begins l.net l.general (erased (take l.index l.entries));
  after : IsAfter l.net l.general (erased (take l.index l.entries)) l.least l.orders;
}

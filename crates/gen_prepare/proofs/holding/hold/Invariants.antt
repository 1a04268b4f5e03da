use Rattle.std.proofs.Common.{◌≡◌, take}
use Rattle.gen_prepare.proofs.holding.hold.Given as goal

abbrev pub invariant-sharing : goal.invariant-sharing
invariant-sharing l = l.exhibits.items ≡ take l.exhibit-index l.own

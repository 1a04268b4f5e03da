use Rattle.std.proofs.Common.{◌<◌}
use Rattle.gen_types.specs.Ascending.{IsListOf}
use Rattle.gen_general.specs.Loops.Deciding.{HasHeard}
use Rattle.gen_general.proofs.deciding.orders_among.Given as goal

abbrev pub invariant-orders : goal.invariant-orders
invariant-orders l = IsListOf l.set (λ v. (v < l.number) × HasHeard l.heard v)

use Rattle.std.proofs.Common.{◌≡◌, ◌++◌, codes, string_bytes}
use Rattle.std.specs.List.{flat_map}
use Rattle.std.specs.Fmt.{decimal}
use Rattle.gen_report.proofs.decisions.push_orders.Given as goal

abbrev pub invariant-loop-order : goal.invariant-loop-order
invariant-loop-order l = string_bytes l.initial.out ++ flat_map (λ w. codes "," ++ decimal w) l.initial.order-iterator ≡ string_bytes l.out ++ flat_map (λ w. codes "," ++ decimal w) l.order-iterator

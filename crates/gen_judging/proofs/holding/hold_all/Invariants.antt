use Rattle.std.proofs.Common.{take}
use Rattle.std.specs.Prelude.{All}
use Rattle.std.specs.List.{AllZip}
use Rattle.gen_judging.specs.Holding.{IsHeld}
use Rattle.gen_judging.proofs.Held.{HasAll}
use Rattle.gen_judging.proofs.holding.hold_all.Given as goal

abbrev pub invariant-runs : goal.invariant-runs
invariant-runs l = AllZip (IsHeld l.faulty) (take l.place l.bundles) l.held.items × All (HasAll l.faulty) (take l.place l.bundles)

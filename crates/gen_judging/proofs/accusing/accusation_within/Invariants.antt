use Rattle.std.proofs.Common.{take}
use Rattle.std.specs.Prelude.{All}
use Rattle.gen_judging.specs.Accusing.{HoldsNone}
use Rattle.gen_judging.proofs.accusing.accusation_within.Given as goal

abbrev pub invariant-runs : goal.invariant-runs
invariant-runs l = All (HoldsNone l.fn.general) (take l.place l.bundles)

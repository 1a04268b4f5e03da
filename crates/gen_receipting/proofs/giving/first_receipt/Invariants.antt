use Rattle.std.proofs.Common.{take}
use Rattle.std.specs.Prelude.{All}
use Rattle.gen_receipting.specs.Giving.{GivesNone}
use Rattle.gen_receipting.proofs.giving.first_receipt.Given as goal

abbrev pub invariant-exhibits : goal.invariant-exhibits
invariant-exhibits l = All (GivesNone l.header l.fn.general) (take l.place l.exhibits)

use Rattle.std.proofs.Common.{take}
use Rattle.std.specs.List.{AllZip}
use Rattle.gen_receipting.specs.Told.{IsToldOf}
use Rattle.gen_receipting.proofs.told.each_told.Given as goal

abbrev pub invariant-receipts : goal.invariant-receipts
invariant-receipts l = AllZip (IsToldOf l.header) (take l.place l.receipts) l.told.items

use Rattle.std.proofs.Common.{◌<◌}
use Rattle.gen_types.specs.Ascending.{IsListOf}
use Rattle.gen_receipt.specs.Convicting.{IsConvicted}
use Rattle.gen_receipting.proofs.told.convicted_by.Given as goal

abbrev pub invariant-generals : goal.invariant-generals
invariant-generals l = IsListOf l.convicted (λ g. (g < l.number) × IsConvicted l.header l.receipts g)

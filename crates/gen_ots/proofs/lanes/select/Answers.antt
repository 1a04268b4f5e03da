use Rattle.std.proofs.Common.{ℕ, false, slice_index_or, arith}
use Rattle.std.specs.Int.{from_bool}
use Rattle.gen_ots.proofs.Filled.{none_filled, one_filled}
use Rattle.gen_ots.proofs.Selected.{selected}
use Rattle.gen_ots.proofs.lanes.select.Goals as goal

pub lanes-init : goal.lanes-init
lanes-init c = none_filled (λ (k : ℕ). from_bool (slice_index_or c.args.ones.now k false)) 0

pub lanes-preserved : goal.lanes-preserved
lanes-preserved c = one_filled (λ (k : ℕ). from_bool (slice_index_or c.args.ones.now k false)) c.lanes.j c.lanes.bits _ (omega arith) c.from.ensures c.lanes.invariant

pub returns : goal.returns
returns c =
    selected c.args.ones.now c.lanes.bits c.args.zeroth c.args.first c.lanes.invariant.0 c.fits-zeroth.0 c.fits-first.0
    (λ j below. c.lanes.invariant.1 j (omega arith) 0)

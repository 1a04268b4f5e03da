use Rattle.std.proofs.Common.{ℕ, ◌+◌, false, arith}
use Rattle.gen_ots.specs.OneTime.{bit_of}
use Rattle.gen_ots.proofs.Filled.{none_filled, one_filled}
use Rattle.gen_ots.proofs.hashing.are_ones.Goals as goal

pub lanes-init : goal.lanes-init
lanes-init c = none_filled (λ (k : ℕ). bit_of c.args.digest.now (c.args.first + k)) false

pub lanes-preserved : goal.lanes-preserved
lanes-preserved c = one_filled (λ (k : ℕ). bit_of c.args.digest.now (c.args.first + k)) c.lanes.j c.lanes.ones _ (omega arith) c.is_one.ensures c.lanes.invariant

pub returns : goal.returns
returns c j below = c.lanes.invariant.1 j (omega arith) false

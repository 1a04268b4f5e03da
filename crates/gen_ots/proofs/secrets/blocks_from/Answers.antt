use Rattle.std.proofs.Common.{ℕ, ◌+◌, ◌*◌, subst, arith}
use Rattle.gen_ots.specs.Blocks.{HasBlock}
use Rattle.gen_ots.proofs.Filled.{none_filled, one_filled}
use Rattle.gen_ots.proofs.secrets.blocks_from.Goals as goal

pub lanes-init : goal.lanes-init
lanes-init c = none_filled (λ (k : ℕ). c.args.first + c.args.step * k) 0

pub lanes-preserved : goal.lanes-preserved
lanes-preserved c = one_filled (λ (k : ℕ). c.args.first + c.args.step * k) c.lanes.j c.lanes.counters _ (omega arith) (omega arith) c.lanes.invariant

pub returns : goal.returns
returns c j below =
    subst (λ (k : ℕ). HasBlock j c.blocks_in_lanes.result c.args.key.now c.args.stream k) (c.lanes.invariant.1 j (omega arith) 0) (c.blocks_in_lanes.ensures j below)

use Rattle.std.proofs.Common.{◌≡◌, ◌+◌, ◌-◌, ◌*◌, add-one, arith}
use Rattle.gen_lmots.specs.Strings.{hash_length}
use Rattle.gen_lms.specs.Heights.{levels_of}
use Rattle.gen_lms.proofs.Climbing.{led-suc, led-zero}
use Rattle.gen_lms.proofs.nodes.root_over.Goals as goal

pub levels-init : goal.levels-init
levels-init c = rw (led-zero, ← c.leaves.ensures.value) c.leaf-node.ensures

pub levels-preserved : goal.levels-preserved
levels-preserved c =
    let n = c.levels.level in
    let w : hash_length * n + hash_length - hash_length * n ≡ hash_length = omega arith in
    let step = rw (c.from-at.ensures, w, c.levels.invariant, c.leaves.ensures.value) at c.above-node.ensures in
    rw (add-one, led-suc) step

pub returns : goal.returns
returns c =
    let n : c.levels.level ≡ levels_of c.args.height = omega arith in
    rw n at c.levels.invariant

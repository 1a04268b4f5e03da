use Rattle.std.proofs.Common.{◌≡◌}
use Rattle.gen_tree.specs.Tree.{folded}
use Rattle.gen_tree.proofs.signatures.root_above.Given as goal

abbrev pub invariant-levels : goal.invariant-levels
invariant-levels l = l.node ≡ folded l.value l.leaf l.siblings l.level

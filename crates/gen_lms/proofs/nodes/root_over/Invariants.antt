use Rattle.std.proofs.Common.{◌≡◌, ◌+◌}
use Rattle.gen_lms.specs.Heights.{leaves_of}
use Rattle.gen_lms.specs.Tree.{leaf, led}
use Rattle.gen_lms.proofs.nodes.root_over.Given as goal

abbrev pub invariant-levels : goal.invariant-levels
invariant-levels l =
    l.node ≡ led l.identifier (leaves_of l.fn.height + l.leaf_number) (leaf l.identifier (leaves_of l.fn.height + l.leaf_number) l.key) l.path l.level

use Rattle.std.proofs.Common.{◌≡◌, ◌*◌, List, ℕ, take, length}
use Rattle.gen_lmots.specs.Strings.{hash_length}
use Rattle.gen_lms.specs.Heights.{leaves_of}
use Rattle.gen_lms.specs.Loops.Nodes.{AreInner}
use Rattle.gen_lms.specs.Tree.{path_over}
use Rattle.gen_lms.proofs.nodes.path_of.Given as goal

abbrev pub invariant-levels : goal.invariant-levels
invariant-levels l =
    ((identifier : List ℕ) → AreInner identifier l.leaves l.nodes
    → take (hash_length * l.level) l.path ≡ path_over identifier l.leaves (leaves_of l.fn.height) l.number l.level)
    × (length l.path ≡ 800)

use Rattle.gen_lms.proofs.Arrayed.{is_inner, is_leaf}
use Rattle.gen_lms.proofs.nodes.node_of.Goals as goal

pub returns-then-number-leaves : goal.returns-then-number-leaves
returns-then-number-leaves c = λ identifier level are first last. is_leaf identifier c.args.leaves.now level c.args.number c.if-number-leaves.true last

pub returns-else-number-leaves : goal.returns-else-number-leaves
returns-else-number-leaves c = λ identifier level are first last.
    is_inner identifier c.args.leaves.now c.args.nodes.now are level c.args.number c.if-number-leaves.false first last c.requires.stands

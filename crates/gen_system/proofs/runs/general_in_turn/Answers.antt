use Rattle.gen_system.proofs.Turning.{node_back}
use Rattle.gen_system.proofs.runs.general_in_turn.Goals as goal

pub returns-clause-back : goal.returns-clause-back
returns-clause-back c = rw c.from.ensures (node_back c.args.n c.args.run c.args.node c.requires.below)

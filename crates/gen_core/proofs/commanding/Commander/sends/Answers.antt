use Rattle.gen_net.specs.Network.{AreNeighbours}
use Rattle.std.proofs.Common.{subst, ◌∙◌, sym}
use Rattle.gen_core.proofs.Commands.{commands_of}
use Rattle.gen_types.specs.Ascending.{IsListOf}
use Rattle.gen_core.proofs.commanding.Commander.sends.Goals as goal

pub returns : goal.returns
returns c =
    let all = subst (λ g. IsListOf c.neighbours-to-items.result (AreNeighbours c.args.net.now g)) c.commander.ensures c.neighbours-to-items.ensures in
    commands_of c.args.net.now c.args.self.now c.commander-path.result c.neighbours-to-items.result c.loop-to.yielded c.loop-to.to-iterator c.loop-to.out.items all c.commander-path.ensures (sym c.into_iter-to-iterator.ensures.into_iter_gives ∙ c.loop-to.invariant.split) (c.in-None.ensures.steps.0) c.loop-to.invariant.sent

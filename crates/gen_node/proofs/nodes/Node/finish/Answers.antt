use Rattle.std.proofs.Common.{◌∙◌, sym, ap, subst}
use Rattle.gen_general.specs.Recording.{IsSealed, log_kept, log_written}
use Rattle.gen_node.specs.Node.{Node, header_at}
use Rattle.gen_node.proofs.nodes.Node.finish.Goals as goal

pub returns-in-Ok-clause-header : goal.returns-in-Ok-clause-header
returns-in-Ok-clause-header c = sym c.self.invariant.header ∙ ap (λ (n : Node). header_at n.recorder) c.self.view_is

pub returns-in-Ok-clause-log : goal.returns-in-Ok-clause-log
returns-in-Ok-clause-log c = c.in-Ok.ensures.log ∙ ap (λ (n : Node). log_written n.recorder) c.self.view_is

pub returns-in-Ok-clause-sealed : goal.returns-in-Ok-clause-sealed
returns-in-Ok-clause-sealed c =
    subst (λ (n : Node). IsSealed (header_at n.recorder) n.recorder.standing.known.me (log_kept n.recorder)) c.self.view_is (c.in-Ok.ensures.sealed c.self.invariant.root)

use Rattle.std.proofs.Common.{◌+◌, ◌-◌, ◌%◌, ℕ, ap, ◌∙◌}
use Rattle.gen_system.proofs.Turning.{general_back, node_cut}
use Rattle.gen_system.proofs.runs.node_in_turn.Goals as goal

pub returns-clause-value : goal.returns-clause-value
returns-clause-value c = rw c.from.ensures (node_cut c.args.n c.args.run c.args.general)

pub returns-clause-back : goal.returns-clause-back
returns-clause-back c =
    rw c.from.ensures (
    ap (λ (t : ℕ). (t + (c.args.n - c.args.run % c.args.n)) % c.args.n) (node_cut c.args.n c.args.run c.args.general)
    ∙ general_back c.args.n c.args.run c.args.general c.requires.below)

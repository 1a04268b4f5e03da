use Rattle.std.proofs.Common.{◌≡◌, ℕ}
use Rattle.gen_system.specs.Runs.{node_of}
use Rattle.gen_enrolling.proofs.Told.{node_more}
use Rattle.gen_enrolling.proofs.admitted.nodes_of_run.Goals as goal

pub generals-preserved : goal.generals-preserved
generals-preserved c =
    let f : ℕ → ℕ = λ general. node_of c.args.system.now c.args.run general in
    let is : c.node_of.result ≡ f c.generals.general = rw c.at.ensures at c.node_of.ensures.value in
    node_more f c.generals.nodes.items c.push.new.self.items c.node_of.result c.generals.general c.generals.invariant c.in_ok-push.ensures.items is

use Rattle.std.proofs.Common.{◌≡◌, ◌<◌, ◌∙◌, length, ap, arith}
use Rattle.gen_system.specs.Runs.{node_of}
use Rattle.gen_system.proofs.Growing.{roots_more}
use Rattle.gen_system.proofs.admissions.Admission.roots_in_run.Goals as goal

pub generals-preserved : goal.generals-preserved
generals-preserved c =
    let a = c.args.self.now in
    let n = c.generals.general in
    let node : c.node_of-node.result ≡ node_of a.system c.args.run n
    = rw (c.system-system.ensures.value, c.at.ensures) at c.node_of-node.ensures.value in
    let below : c.node_of-node.result < a.system.header.network.generals
    = rw c.system-system.ensures.value at c.node_of-node.ensures.below in
    let xs = c.opened-opened.result.now in
    let inside : c.from.result < length xs
    = omega (arith, c.from.ensures, c.get.ensures.value, below, c.opened-opened.ensures.admission.one_each, ap length c.opened-opened.ensures.value) in
    roots_more a c.args.run n c.generals.roots.items c.push.new.self.items xs c.from.result c.index-opened-from.result
    c.opened-opened.ensures.value (c.from.ensures ∙ c.get.ensures.value ∙ node) inside c.generals.invariant c.in_ok-push.ensures.items

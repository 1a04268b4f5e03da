use Rattle.std.proofs.Common.{◌≡◌, ◌+◌, ◌-◌, ◌++◌, [], ◌∷◌, length, length-append, ap, arith}
use Rattle.gen_lms.specs.Loops.Nodes.{AreInner}
use Rattle.gen_lms.proofs.Arrayed.{none_inner, one_more}
use Rattle.gen_lms.proofs.nodes.nodes_above.Goals as goal

pub nodes-init : goal.nodes-init
nodes-init c =
    let empty = c.in_ok-nodes.ensures.items in
    (omega (arith, ap length empty), none_inner c.args.identifier.now c.args.leaves.now c.in_ok-nodes.nodes.items empty)

pub nodes-preserved : goal.nodes-preserved
nodes-preserved c =
    let identifier = c.args.identifier.now in
    let leaves = c.args.leaves.now in
    let nodes = c.nodes.nodes.items in
    let r = length leaves - c.nodes.done in
    let v = c.inner-node.result in
    let items : c.extend_from_slice.new.self.items ≡ nodes ++ v ∷ [] = c.in_ok-extend_from_slice.ensures.items in
    let place : length nodes + 1 + r ≡ length leaves = omega (arith, c.nodes.invariant.0, c.nodes-test.true) in
    let before : AreInner identifier leaves c.as_slice.result.now = rw c.as_slice.ensures.value c.nodes.invariant.1 in
    let same : AreInner identifier leaves c.as_slice-in-nodes.result.now = rw c.as_slice-in-nodes.ensures.value c.nodes.invariant.1 in (
      omega (arith, ap length items, length-append nodes (v ∷ []), c.nodes.invariant.0),
      rw items (one_more identifier leaves nodes r c.node_of-left.result c.node_of-right.result v c.nodes.invariant.1 place
          (λ level first last. c.node_of-left.ensures identifier level before first last)
          (λ level first last. c.node_of-right.ensures identifier level same first last) c.inner-node.ensures),
    )

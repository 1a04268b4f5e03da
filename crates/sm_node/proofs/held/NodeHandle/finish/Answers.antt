use Rattle.std.proofs.Common.{◌≡◌, ◌∙◌, Some, true, ap, sym}
use Rattle.gen_node.specs.Node.{is_over}
use Rattle.sm_node.specs.EndedNode.{EndedNode}
use Rattle.sm_node.specs.NodeHandle.{running}
use Rattle.sm_node.specs.declared.held.NodeHandle.TheVariants.{Running, Ended}
use Rattle.sm_node.proofs.OwnLogs.{sealed_node}
use Rattle.sm_node.proofs.held.NodeHandle.finish.Goals as goal

pub new-requires : goal.new-requires
new-requires c = sealed_node c.in-Some.node.recorder c.in-Ok.field-0.header c.in-Ok.field-0.log c.in-Ok.ensures.header c.in-Ok.ensures.log c.in-Ok.ensures.sealed

pub returns-in-Ok : goal.returns-in-Ok
returns-in-Ok c =
    let n = c.in-Some.node in
    let was : Some n ≡ Some c.in-Running.node = c.in-Some.ensures ∙ ap running c.replace.ensures.value in
    let same : n ≡ c.in-Running.node = cc in
    let over : is_over n ≡ true = cc in (
      n,
      ap Some c.in-Running.is ∙ ap (λ m. Some (Running m)) (sym same),
      over,
      ap (λ (e : EndedNode). Some (Ended e)) (c.new.ensures ∙ (λ i. record { header = c.in-Ok.ensures.header i; log = c.in-Ok.ensures.log i; decision = c.in-Ok.ensures.decision i })),
    )

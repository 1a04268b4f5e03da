use Rattle.std.proofs.Common.{◌∙◌, List, ap, subst}
use Rattle.std.specs.Prelude.{is_some}
use Rattle.gen_node.specs.declared.stages.Stage.{Stage}
use Rattle.gen_node.specs.declared.stages.Stage.TheVariants.{Open}
use Rattle.gen_node.specs.Held.{Held, held_of}
use Rattle.gen_node.specs.Node.{Node, awaits, neighbours_at}
use Rattle.gen_node.specs.Loops.Kept.{IsNode}
use Rattle.gen_node.proofs.Rows.{is_held_mapped}
use Rattle.gen_node.proofs.Steps.{awaits_open}
use Rattle.gen_node.proofs.nodes.Node.awaits.Goals as goal

pub returns-in-Open : goal.returns-in-Open
returns-in-Open c =
    let i = c.self.inside in
    let g = c.args.general in
    let at : IsNode i.header i.recorder Open i.outbox.items = subst (λ (st : Stage). IsNode i.header i.recorder st i.outbox.items) c.in-Open.is c.self.invariant in
    let n : Node = record { recorder = i.recorder; stage = i.stage; inbox = i.inbox.items } in
    c.is_held.ensures ∙ ap (λ (out : List Held). is_some (held_of g out)) c.as_slice.ensures.value
    ∙ is_held_mapped i.recorder g (neighbours_at i.recorder) i.outbox.items at.holds ∙ awaits_open n g c.in-Open.is ∙ ap (λ (m : Node). awaits m g) c.self.view_is

use Rattle.std.proofs.Common.{◌≡◌, ◌∙◌, ap, subst, sym}
use Rattle.gen_general.specs.Recording.{with_recvs}
use Rattle.gen_general.proofs.Worlds.{near_known}
use Rattle.gen_node.specs.declared.stages.Stage.{Stage}
use Rattle.gen_node.specs.declared.stages.Stage.TheVariants.{Hearing}
use Rattle.gen_node.specs.Held.{frame_in}
use Rattle.gen_node.specs.Node.{Node, header_at}
use Rattle.gen_node.specs.Loops.Kept.{IsNode, heard_one, is_near}
use Rattle.gen_node.proofs.Keeping.{kept_heard, kept_unheard}
use Rattle.gen_node.proofs.Steps.{heard_no, heard_yes}
use Rattle.gen_node.proofs.nodes.Node.hear_next.Goals as goal
use Rattle.gen_node.proofs.nodes.Node.hear_next.Goals.{then-has_edge+in_ok-hear, else-has_edge}

pub invariant_of-self-2 : goal.invariant_of-self-2
invariant_of-self-2 c =
    let i = c.self.inside in
    let next = c.args.next in
    let stage = ap (λ (n : Node). n.stage) c.self.view_is ∙ c.requires.at in
    let at : IsNode i.header i.recorder (Hearing next) i.outbox.items = subst (λ (st : Stage). IsNode i.header i.recorder st i.outbox.items) stage c.self.invariant in
    elim c.if-has_edge.branch [
      | then-has_edge+in_ok-hear w ↦
          let frame : w.parcels_of-frame.result.now ≡ frame_in next i.inbox.items = w.parcels_of-frame.ensures ∙ (λ j. frame_in (c.at-from.ensures j) (w.as_slice.ensures.value j)) in
          let heard : w.hear.new.self ≡ with_recvs i.recorder next (frame_in next i.inbox.items) = w.in_ok-hear.ensures.ok ∙ (λ j. with_recvs i.recorder (c.at-from.ensures j) (frame j)) in
          rw (w.self-inside-is, heard) (kept_heard i.header i.recorder next (frame_in next i.inbox.items) i.outbox.items at)
      | else-has_edge w ↦ rw w.self-inside-is (kept_unheard i.header i.recorder next i.outbox.items at)
    ]

pub returns-clause-ok : goal.returns-clause-ok
returns-clause-ok c =
    let i = c.self.inside in
    let next = c.args.next in
    let same = sym c.self.invariant.header in
    let both = rw (c.net-net.ensures.value, same, c.me.ensures, c.at-from.ensures) at c.has_edge.ensures in
    let near : is_near i.recorder next ≡ c.has_edge.result = near_known (header_at i.recorder).network c.has_edge.result i.recorder.standing.known.me next both in
    let n : Node = record { recorder = i.recorder; stage = i.stage; inbox = i.inbox.items } in
    let outside = ap (λ (m : Node). heard_one m next) c.self.view_is in
    elim c.if-has_edge.branch [
      | then-has_edge+in_ok-hear w ↦
          let frame : w.parcels_of-frame.result.now ≡ frame_in next i.inbox.items = w.parcels_of-frame.ensures ∙ (λ j. frame_in (c.at-from.ensures j) (w.as_slice.ensures.value j)) in
          let heard : w.hear.new.self ≡ with_recvs i.recorder next (frame_in next i.inbox.items) = w.in_ok-hear.ensures.ok ∙ (λ j. with_recvs i.recorder (c.at-from.ensures j) (frame j)) in
          rw (w.self-inside-is, heard) (heard_yes n next (near ∙ w.if-has_edge.true) ∙ outside)
      | else-has_edge w ↦ rw w.self-inside-is (heard_no n next (near ∙ w.if-has_edge.false) ∙ outside)
    ]

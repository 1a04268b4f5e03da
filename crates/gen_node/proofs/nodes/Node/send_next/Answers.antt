use Rattle.std.proofs.Common.{◌≡◌, ◌∙◌, ◌<◌, ◌++◌, ◌∷◌, [], ap, subst, sym}
use Rattle.gen_general.specs.Participant.{sends}
use Rattle.gen_general.specs.Recording.{with_sends}
use Rattle.gen_general.proofs.Worlds.{near_known}
use Rattle.gen_node.specs.declared.stages.Stage.{Stage}
use Rattle.gen_node.specs.declared.stages.Stage.TheVariants.{Sending}
use Rattle.gen_node.specs.Node.{Node, header_at}
use Rattle.gen_node.specs.Loops.Kept.{IsNode, held_for, is_near, sent_one}
use Rattle.gen_node.proofs.Keeping.{kept_sent, kept_unsent}
use Rattle.gen_node.proofs.Steps.{sent_no, sent_yes}
use Rattle.gen_node.proofs.nodes.Node.send_next.Goals as goal
use Rattle.gen_node.proofs.nodes.Node.send_next.Goals.{then-has_edge+in_ok-reserve+in_ok-parcels, else-has_edge}

pub invariant_of-self-2 : goal.invariant_of-self-2
invariant_of-self-2 c =
    let i = c.self.inside in
    let next = c.args.next in
    let same = sym c.self.invariant.header in
    let both = rw (c.net-net.ensures.value, same, c.me.ensures, c.at-to.ensures) at c.has_edge.ensures in
    let near : is_near i.recorder next ≡ c.has_edge.result = near_known (header_at i.recorder).network c.has_edge.result i.recorder.standing.known.me next both in
    let low = subst (λ (n : Node). next < (header_at n.recorder).network.generals) (sym c.self.view_is) c.requires.below in
    let stage = ap (λ (n : Node). n.stage) c.self.view_is ∙ c.requires.at in
    let at : IsNode i.header i.recorder (Sending next) i.outbox.items = subst (λ (st : Stage). IsNode i.header i.recorder st i.outbox.items) stage c.self.invariant in
    elim c.if-has_edge.branch [
      | then-has_edge+in_ok-reserve+in_ok-parcels w ↦
          let sent : w.send.new.self ≡ with_sends i.recorder next = w.in_ok-parcels.ensures.ok ∙ ap (with_sends i.recorder) c.at-to.ensures in
          let items = rw w.unwrap.ensures at w.push.ensures.items in
          let pushed : w.push.new.self.items ≡ i.outbox.items ++ held_for i.recorder next ∷ [] = items ∙ (λ j. w.in_ok-reserve.ensures.items j ++ record { general = c.at-to.ensures j; parcels = (w.in_ok-parcels.ensures.frame ∙ ap (sends i.recorder.standing) c.at-to.ensures) j } ∷ []) in
          let kept = kept_sent i.header i.recorder next i.outbox.items low (near ∙ w.if-has_edge.true) at in
          rw (w.self-inside-is, sent, pushed) kept
      | else-has_edge w ↦ rw w.self-inside-is (kept_unsent i.header i.recorder next i.outbox.items low (near ∙ w.if-has_edge.false) at)
    ]

pub returns-clause-ok : goal.returns-clause-ok
returns-clause-ok c =
    let i = c.self.inside in
    let next = c.args.next in
    let same = sym c.self.invariant.header in
    let both = rw (c.net-net.ensures.value, same, c.me.ensures, c.at-to.ensures) at c.has_edge.ensures in
    let near : is_near i.recorder next ≡ c.has_edge.result = near_known (header_at i.recorder).network c.has_edge.result i.recorder.standing.known.me next both in
    let n : Node = record { recorder = i.recorder; stage = i.stage; inbox = i.inbox.items } in
    let outside = ap (λ (n : Node). sent_one n next) c.self.view_is in
    elim c.if-has_edge.branch [
      | then-has_edge+in_ok-reserve+in_ok-parcels w ↦
          let sent : w.send.new.self ≡ with_sends i.recorder next = w.in_ok-parcels.ensures.ok ∙ ap (with_sends i.recorder) c.at-to.ensures in
          rw (w.self-inside-is, sent) (sent_yes n next (near ∙ w.if-has_edge.true) ∙ outside)
      | else-has_edge w ↦ rw w.self-inside-is (sent_no n next (near ∙ w.if-has_edge.false) ∙ outside)
    ]

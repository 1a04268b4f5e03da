use Rattle.std.proofs.Common.{◌≡◌, ◌∙◌, List, true, ap, subst, sym}
use Rattle.gen_net.specs.Network.{rounds}
use Rattle.gen_node.specs.declared.stages.Stage.{Stage}
use Rattle.gen_node.specs.declared.stages.Stage.TheVariants.{Between, Sending}
use Rattle.gen_node.specs.Held.{Held}
use Rattle.gen_node.specs.Node.{Node, header_at, may_begin}
use Rattle.gen_node.specs.Loops.Kept.{IsNode}
use Rattle.gen_node.proofs.Keeping.{kept_signed, may_more}
use Rattle.gen_node.proofs.nodes.Node.sign.Goals as goal

pub invariant_of-self-2 : goal.invariant_of-self-2
invariant_of-self-2 c =
    let i = c.self.inside in
    let at : IsNode i.header i.recorder Between i.outbox.items = subst (λ (st : Stage). IsNode i.header i.recorder st i.outbox.items) c.in-Between.is c.self.invariant in
    let n : Node = record { recorder = i.recorder; stage = i.stage; inbox = i.inbox.items } in
    let may : may_begin n ≡ true = ap (λ (m : Node). may_begin m) c.self.view_is ∙ c.requires in
    let more = may_more i.stage i.recorder.standing.round (rounds (header_at i.recorder).network) c.in-Between.is may in
    subst (λ (out : List Held). IsNode i.header c.begin_round.new.self (Sending 0) out) (sym c.new-outbox.ensures.items) (kept_signed i.header i.recorder c.begin_round.new.self i.outbox.items more at c.in_ok-begin_round.ensures.ok)

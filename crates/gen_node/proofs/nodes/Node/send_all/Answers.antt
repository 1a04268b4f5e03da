use Rattle.std.proofs.Common.{◌≡◌, ◌≤◌, ◌<◌, ◌∙◌, ◌+◌, ap, sym, arith}
use Rattle.gen_net.specs.Header.{RunHeader}
use Rattle.gen_node.specs.Node.{Node, header_at, sent_from}
use Rattle.gen_node.proofs.Rounds.{sent_over, sent_step}
use Rattle.gen_node.proofs.Steps.{sent_header}
use Rattle.gen_node.proofs.nodes.Node.send_all.Goals as goal

pub sending-preserved : goal.sending-preserved
sending-preserved c =
    let n = c.sending.self in
    let next = c.sending.next in
    let ok = c.in_ok-send_next.ensures.ok in
    let low : next < (header_at n.recorder).network.generals = omega (arith, c.sending-test.true, c.sending.invariant.generals) in
    record {
      stage = ap (λ (m : Node). m.stage) ok;
      total = ap (sent_from (next + 1)) ok ∙ sym (sent_step n next low) ∙ c.sending.invariant.total;
      generals = ap (λ (m : Node). (header_at m.recorder).network.generals) ok ∙ ap (λ (h : RunHeader). h.network.generals) (sent_header n next) ∙ c.sending.invariant.generals;
    }

pub returns-clause-ok : goal.returns-clause-ok
returns-clause-ok c =
    let i = c.self-2.inside in
    let next = c.sending.next in
    let n : Node = record { recorder = i.recorder; stage = i.stage; inbox = i.inbox.items } in
    let gens : (header_at i.recorder).network.generals ≡ (header_at c.sending.self.recorder).network.generals = ap (λ (m : Node). (header_at m.recorder).network.generals) c.self-2.view_is in
    let past : (header_at i.recorder).network.generals ≤ next = omega (arith, gens, c.sending-test.false, c.sending.invariant.generals) in
    sent_over n next past ∙ ap (sent_from next) c.self-2.view_is ∙ c.sending.invariant.total ∙ ap (λ k. sent_from k c.args.self.now) c.next_sent-first.ensures

use Rattle.std.proofs.Common.{◌≡◌, ◌≤◌, ◌<◌, ◌∙◌, ◌+◌, ap, sym, arith}
use Rattle.gen_net.specs.Header.{RunHeader}
use Rattle.gen_node.specs.declared.stages.Stage.TheVariants.{Between}
use Rattle.gen_node.specs.Node.{Node, header_at, heard_from}
use Rattle.gen_node.proofs.Rounds.{heard_over, heard_step}
use Rattle.gen_node.proofs.Steps.{heard_header}
use Rattle.gen_node.proofs.nodes.Node.end_round.Goals as goal

pub hearing-preserved : goal.hearing-preserved
hearing-preserved c =
    let n = c.hearing.self in
    let next = c.hearing.next in
    let ok = c.in_ok-hear_next.ensures.ok in
    let low : next < (header_at n.recorder).network.generals = omega (arith, c.hearing-test.true, c.hearing.invariant.generals) in
    record {
      stage = ap (λ (m : Node). m.stage) ok;
      total = ap (heard_from (next + 1)) ok ∙ sym (heard_step n next low) ∙ c.hearing.invariant.total;
      generals = ap (λ (m : Node). (header_at m.recorder).network.generals) ok ∙ ap (λ (h : RunHeader). h.network.generals) (heard_header n next) ∙ c.hearing.invariant.generals;
    }

pub returns-clause-ok : goal.returns-clause-ok
returns-clause-ok c =
    let i = c.self-2.inside in
    let next = c.hearing.next in
    let n : Node = record { recorder = i.recorder; stage = i.stage; inbox = i.inbox.items } in
    let gens : (header_at i.recorder).network.generals ≡ (header_at c.hearing.self.recorder).network.generals = ap (λ (m : Node). (header_at m.recorder).network.generals) c.self-2.view_is in
    let past : (header_at i.recorder).network.generals ≤ next = omega (arith, gens, c.hearing-test.false, c.hearing.invariant.generals) in
    (λ j. record { recorder = i.recorder; stage = Between; inbox = c.new.ensures.items j })
    ∙ heard_over n next past ∙ ap (heard_from next) c.self-2.view_is ∙ c.hearing.invariant.total ∙ ap (λ k. heard_from k c.args.self.now) c.next_heard-first.ensures

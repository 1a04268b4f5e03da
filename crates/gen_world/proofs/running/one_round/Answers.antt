use Rattle.std.proofs.Common.{◌+◌, ◌<◌, ◌≤◌, length, All, take, subst, ◌∙◌, arith}
use Rattle.std.proofs.lemmas.List.{take_all, length-map}
use Rattle.gen_world.specs.Loops.Rounds.{IsReady, AreRelays, numbers_of}
use Rattle.gen_world.proofs.Rounding.{here_of_rest, rest_after, done_after, numbers_set, numbers_taken, relays_more, ready_next}
use Rattle.gen_world.proofs.running.one_round.Goals as goal

pub step-requires-clause-seen : goal.step-requires-clause-seen
step-requires-clause-seen c = (here_of_rest (IsReady c.args.net.now c.args.before.now c.args.gone) c.loop-lieutenant.lieutenants c.loop-lieutenant.lieutenant-index c.lieutenant-item.result (omega arith) c.loop-lieutenant.invariant.ready).seen

pub step-requires-clause-left : goal.step-requires-clause-left
step-requires-clause-left c =
    let r = here_of_rest (IsReady c.args.net.now c.args.before.now c.args.gone) c.loop-lieutenant.lieutenants c.loop-lieutenant.lieutenant-index c.lieutenant-item.result (omega arith) c.loop-lieutenant.invariant.ready in
    omega (arith, r.gone, r.seen.rounds, c.requires.left)

pub loop-lieutenant-preserved : goal.loop-lieutenant-preserved
loop-lieutenant-preserved c =
    let net = c.args.net.now in
    let run = c.args.before.now in
    let cur = c.loop-lieutenant.lieutenants in
    let i = c.loop-lieutenant.lieutenant-index in
    let d = c.lieutenant-item.result in
    let new = c.step.new.lieutenant in
    let lt : i < length cur = omega arith in
    let r = here_of_rest (IsReady net run c.args.gone) cur i d lt c.loop-lieutenant.invariant.ready in
    record {
      numbers = numbers_set cur i new d lt c.in_ok-step.ensures.me ∙ c.loop-lieutenant.invariant.numbers;
      done = done_after (IsReady net run (c.args.gone + 1)) cur i new lt c.loop-lieutenant.invariant.done (ready_next net run c.args.gone _ new r c.in_ok-step.ensures.me c.in_ok-step.ensures.gone c.in_ok-step.ensures.seen);
      ready = rest_after (IsReady net run c.args.gone) cur i new c.loop-lieutenant.invariant.ready;
      sent = rw (numbers_taken cur (numbers_of c.args.lieutenants.now) i d c.loop-lieutenant.invariant.numbers lt) (relays_more net run (c.args.gone + 1) _ (take i (numbers_of c.args.lieutenants.now)) c.loop-lieutenant.next.items c.step.new.next.items c.loop-lieutenant.invariant.sent (rw r.gone at c.in_ok-step.ensures.sent));
    }

pub returns-clause-ready : goal.returns-clause-ready
returns-clause-ready c = subst (All (IsReady c.args.net.now c.args.before.now (c.args.gone + 1))) (take_all c.loop-lieutenant.lieutenant-index c.loop-lieutenant.lieutenants (omega arith)) c.loop-lieutenant.invariant.done

pub returns-clause-sent : goal.returns-clause-sent
returns-clause-sent c =
    let long : length (numbers_of c.args.lieutenants.now) ≤ c.loop-lieutenant.lieutenant-index = rw length-map c.loop-lieutenant-test.false in
    subst (λ gs. AreRelays c.args.net.now c.args.before.now (c.args.gone + 1) gs c.loop-lieutenant.next.items) (take_all c.loop-lieutenant.lieutenant-index (numbers_of c.args.lieutenants.now) long) c.loop-lieutenant.invariant.sent

use Rattle.std.proofs.Common.{◌≡◌, ◌≢◌, ◌+◌, ◌<◌, ◌≤◌, ◌∷◌, ◌++◌, List, All, take, drop, length, subst, sym, ap, ◌∙◌, arith}
use Rattle.std.specs.List.{range_with_len}
use Rattle.std.proofs.lemmas.List.Elements.{All-push, All-weaker}
use Rattle.gen_net.specs.Network.{rounds}
use Rattle.gen_net.specs.Run.{Run}
use Rattle.gen_core.specs.Seeing.{HasSeen}
use Rattle.gen_core.specs.Sending.{Appends}
use Rattle.gen_core.specs.declared.sending.Outgoing.{Outgoing}
use Rattle.gen_net.specs.declared.message.Message.{Message}
use Rattle.gen_scenario.specs.World.{IsOutcome}
use Rattle.gen_world.specs.Loops.Rounds.{IsAmong, IsReady, AreRelays, numbers_of}
use Rattle.gen_scenario.proofs.Growing.{AreNext, first_round, world_more, world_of}
use Rattle.gen_scenario.proofs.Obeying.{all_obey}
use Rattle.gen_world.proofs.Arriving.{first_sends}
use Rattle.gen_world.proofs.Rounding.{numbers_pushed, written_back, next_of_relays, ready_longer}
use Rattle.gen_world.proofs.running.run_plain.Goals as goal
use Rattle.gen_scenario.specs.Deciding.{AreSignedDecisions}
use Rattle.gen_scenario.proofs.DecisionsMade.{signed_decisions}

pub loop-number-preserved : goal.loop-number-preserved
loop-number-preserved c =
    let net = c.net-net.result.now in
    let all = c.loop-number.lieutenants.items in
    let number : c.new.result.me ≡ c.loop-number.number = c.new.ensures.me ∙ c.at.ensures in
    record {
      numbers = rw c.in_ok-push.ensures.items (numbers_pushed all c.new.result c.loop-number.number c.loop-number.invariant.numbers number);
      ready = λ run ok. rw c.in_ok-push.ensures.items (All-push (IsReady net run 0) all c.new.result (c.loop-number.invariant.ready run ok) (record {
        lieutenant = let ne : c.new.result.me ≢ 0 = omega arith in ne;
        general = omega (arith, c.generals-number-end.ensures.value);
        gone = c.new.ensures.gone;
        seen = c.new.ensures.seen run ok;
      }));
    }

pub loop-gone-init : goal.loop-gone-init
loop-gone-init c =
    let net = c.net-net.result.now in
    let known : c.new-commander.result < net.orders = rw (c.new-commander.ensures, c.net-net.ensures) c.order.ensures.known in
    let from = subst (λ g. Appends (IsAmong g c.deref.result.now) c.new-messages.result.items c.push_sends.new.messages.items) c.commander.ensures c.in_ok-push_sends.ensures in
    let out = subst (λ (xs : List Outgoing). Appends (IsAmong 0 xs) c.new-messages.result.items c.push_sends.new.messages.items) c.deref.ensures.value from in
    let sent = subst (λ (xs : List Message). Appends (IsAmong 0 c.in_ok-out.out.items) xs c.push_sends.new.messages.items) c.new-messages.ensures.items out in
    let first = first_sends net c.new-commander.result c.in_ok-out.out.items c.push_sends.new.messages.items c.in_ok-out.ensures sent in
    let world = first_round net c.new-commander.result c.push_sends.new.messages.items c.rounds-gone-end.ensures.network known first in
    let all : c.loop-number.number ≡ net.generals = omega (arith, c.loop-number-test.false, c.loop-number.auto.number-end, c.generals-number-end.ensures.value, c.rounds-gone-end.ensures.network.ranges.some_generals) in
    record { world = world; ready = c.loop-number.invariant.ready c.push_sends.new.messages.items world.run_of_net; numbers = c.loop-number.invariant.numbers ∙ ap (range_with_len 0) all }

pub loop-gone-preserved : goal.loop-gone-preserved
loop-gone-preserved c =
    let net = c.net-net.result.now in
    let order = c.new-commander.result in
    let run = c.loop-gone.messages.items in
    let k = c.loop-gone.gone in
    let states = c.one_round.new.lieutenants in
    let next = c.in_ok-next.next.items in
    let numbers : numbers_of states ≡ numbers_of c.loop-gone.lieutenants.items = c.in_ok-next.ensures.numbers ∙ ap numbers_of c.deref_mut.ensures.value in
    let ready : All (IsReady net run (k + 1)) states = subst (λ (r : Run). All (IsReady net r (k + 1)) states) c.deref-in-loop-gone.ensures.value c.in_ok-next.ensures.ready in
    let sent : AreRelays net run (k + 1) (numbers_of states) next = subst (λ gs. AreRelays net run (k + 1) gs next) (sym c.in_ok-next.ensures.numbers) (subst (λ (r : Run). AreRelays net r (k + 1) (numbers_of c.deref_mut.result.now) next) c.deref-in-loop-gone.ensures.value c.in_ok-next.ensures.sent) in
    let all : 0 ∷ numbers_of states ≡ range_with_len 0 net.generals = ap (λ gs. 0 ∷ gs) numbers ∙ c.loop-gone.invariant.numbers in
    let some = All-weaker (IsReady net run (k + 1)) (λ s. (s.me ≢ 0) × (s.me < net.generals)) (λ s r. (r.lieutenant, r.general)) states ready in
    let are_next : AreNext net run (k + 1) next = next_of_relays net run (k + 1) states next all some sent in
    let pos : 0 < k + 1 = omega arith in
    let grown : c.extend_from_slice.new.self.items ≡ run ++ next = c.in_ok-extend_from_slice.ensures.items ∙ ap (λ (r : Run). run ++ r) c.deref-in-loop-gone-2.ensures.value in
    let back : take c.loop-gone.lieutenants.len (states ++ drop (length states) c.loop-gone.lieutenants.items) ≡ states = written_back states c.loop-gone.lieutenants.items c.loop-gone.lieutenants.len (omega arith) (omega arith) in
    record {
      world = rw grown (world_more net order run next (k + 1) c.loop-gone.invariant.world are_next pos);
      ready = rw (back, grown) (ready_longer net order run next (k + 1) states c.loop-gone.invariant.world are_next pos ready);
      numbers = rw back all;
    }

pub returns : goal.returns
returns c =
    let net = c.net-net.result.now in
    let order = c.new-commander.result in
    let run = c.loop-gone.messages.items in
    let states = c.loop-gone.lieutenants.items in
    let done : rounds net ≤ c.loop-gone.gone + 1 = omega (arith, c.rounds-gone-end.ensures.value) in
    let saw : All (HasSeen net run) c.deref-2.result.now = rw c.deref-2.ensures.value (All-weaker (IsReady net run c.loop-gone.gone) (HasSeen net run) (λ s r. r.seen) states c.loop-gone.invariant.ready) in
    let outcome : IsOutcome net order c.in_ok-decisions.decisions.items = record {
      run = run;
      world = world_of net order run (c.loop-gone.gone + 1) done c.loop-gone.invariant.world;
      generals = c.in_ok-decisions.ensures.generals ∙ (ap (λ ss. 0 ∷ numbers_of ss) c.deref-2.ensures.value ∙ c.loop-gone.invariant.numbers);
      each = c.in_ok-decisions.ensures.each net run saw;
    } in
    let low : order < net.orders = rw (c.new-commander.ensures, c.net-net.ensures) c.order.ensures.known in
    let same : AreSignedDecisions (record { net = net; order = order }) c.in_ok-decisions.decisions.items =
    signed_decisions (record { net = net; order = order }) c.in_ok-decisions.decisions.items c.rounds-gone-end.ensures.network low outcome in
    rw (← c.net-net.ensures, ← c.order.ensures.value, ← c.new-commander.ensures, c.new-2.ensures) (record {
      outcome = outcome;
      obeyed = λ near. all_obey net order c.in_ok-decisions.decisions.items outcome near;
      same = same;
    })

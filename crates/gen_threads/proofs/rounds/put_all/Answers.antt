use Rattle.std.proofs.Common.{◌≡◌, refl, ap, arith}
use Rattle.gen_general.proofs.Recorders.{sent_to_last}
use Rattle.gen_threads.proofs.Turning.{puts_on, puts_end, putting_first}
use Rattle.gen_threads.proofs.rounds.put_all.Goals as goal

pub near-init : goal.near-init
near-init g c = record {
  so_far = putting_first c.args.edges.now c.args.part.now.scenario c.args.gone c.args.part.now.me c.args.recorder.now c.args.puts.now.items c.requires.begun c.requires.passes;
  ring = refl;
}

pub returns-clause-sent : goal.returns-clause-sent
returns-clause-sent g c =
    let s = c.args.part.now.scenario in
    let stop : c.near.number ≡ s.net.generals = omega (arith, c.near-test.false, c.near.auto.number-end, c.generals-number-end.ensures.value, ap (λ x. x.generals) c.net.ensures.value, ap (λ x. x.network.generals) c.header.ensures.value, ap (λ x. x.header.network.generals) c.part.ensures.value) in
    sent_to_last s c.args.gone c.args.part.now.me c.near.number c.near.recorder stop c.near.invariant.so_far.sent

pub returns-clause-put : goal.returns-clause-put
returns-clause-put g c =
    let s = c.args.part.now.scenario in
    let stop : c.near.number ≡ s.net.generals = omega (arith, c.near-test.false, c.near.auto.number-end, c.generals-number-end.ensures.value, ap (λ x. x.generals) c.net.ensures.value, ap (λ x. x.network.generals) c.header.ensures.value, ap (λ x. x.header.network.generals) c.part.ensures.value) in
    puts_end c.args.edges.now s c.args.gone c.args.part.now.me c.near.number c.near.puts.items stop c.near.invariant.so_far.passes

pub returns-clause-passes : goal.returns-clause-passes
returns-clause-passes g c =
    puts_on c.args.edges.now c.args.part.now.scenario c.args.gone c.args.part.now.me c.near.number c.near.puts.items c.near.invariant.so_far.passes

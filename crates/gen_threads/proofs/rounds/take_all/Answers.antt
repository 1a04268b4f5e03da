use Rattle.std.proofs.Common.{◌≡◌, refl, ap, arith}
use Rattle.gen_threads.proofs.Turning.{takes_on, takes_end, taking_first, taking_last}
use Rattle.gen_threads.proofs.rounds.take_all.Goals as goal

pub near-init : goal.near-init
near-init g c = record {
  so_far = taking_first c.args.edges.now c.args.part.now.scenario c.args.gone c.args.part.now.me c.args.recorder.now c.args.takes.now.items c.requires.sent c.requires.passes;
  ring = refl;
}

pub returns-clause-heard : goal.returns-clause-heard
returns-clause-heard g c =
    let s = c.args.part.now.scenario in
    let stop : c.near.number ≡ s.net.generals = omega (arith, c.near-test.false, c.near.auto.number-end, c.generals-number-end.ensures.value, ap (λ x. x.generals) c.net.ensures.value, ap (λ x. x.network.generals) c.header.ensures.value, ap (λ x. x.header.network.generals) c.part.ensures.value) in
    taking_last c.args.edges.now s c.args.gone c.args.part.now.me c.near.number c.near.index c.near.recorder c.near.takes.items stop c.near.invariant.so_far

pub returns-clause-taken : goal.returns-clause-taken
returns-clause-taken g c =
    let s = c.args.part.now.scenario in
    let stop : c.near.number ≡ s.net.generals = omega (arith, c.near-test.false, c.near.auto.number-end, c.generals-number-end.ensures.value, ap (λ x. x.generals) c.net.ensures.value, ap (λ x. x.network.generals) c.header.ensures.value, ap (λ x. x.header.network.generals) c.part.ensures.value) in
    takes_end c.args.edges.now s c.args.gone c.args.part.now.me c.near.number c.near.takes.items stop c.near.invariant.so_far.passes

pub returns-clause-passes : goal.returns-clause-passes
returns-clause-passes g c =
    takes_on c.args.edges.now c.args.part.now.scenario c.args.gone c.args.part.now.me c.near.number c.near.takes.items c.near.invariant.so_far.passes

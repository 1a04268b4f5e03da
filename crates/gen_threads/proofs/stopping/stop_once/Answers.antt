use Rattle.std.proofs.Common.{◌≡◌, arith}
use Rattle.gen_net.specs.Network.{rounds}
use Rattle.gen_threads.proofs.Ending.{all_over}
use Rattle.gen_threads.proofs.stopping.stop_once.Goals as goal

pub returns-clause-over : goal.returns-clause-over
returns-clause-over g c over =
    let net = c.args.net.now in
    let stop : c.near.number ≡ net.generals = omega (arith, c.near-test.false, c.near.auto.number-end, c.generals-number-end.ensures.value) in
    all_over c.args.edges.now net c.args.me (rounds net) c.near.number c.near.index c.near.puts.items c.near.takes.items c.near.invariant.passes stop c.near.invariant.here (c.near.invariant.over over)

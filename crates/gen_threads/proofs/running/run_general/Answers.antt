use Rattle.gen_net.specs.Network.{rounds}
use Rattle.gen_threads.proofs.Ending.{carried_over}
use Rattle.gen_threads.proofs.running.run_general.Goals as goal

pub returns-in-Ok-clause-over : goal.returns-in-Ok-clause-over
returns-in-Ok-clause-over g c =
    let s = c.args.part.now.scenario in
    carried_over c.args.edges.now s (rounds s.net) c.args.part.now.me c.run_to_end.new.puts.items c.run_to_end.new.takes.items c.in-Ok.ensures.carried

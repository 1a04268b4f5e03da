use Rattle.gen_threads.proofs.Gathering.{passes_of}
use Rattle.gen_threads.proofs.starting.run_work.Goals as goal

pub returns-then-load : goal.returns-then-load
returns-then-load g c =
    let work = c.args.work in
    passes_of c.args.edges.now c.args.scenario.now 0 c.args.me work.passes.puts.items work.passes.takes.items c.requires.work.passes

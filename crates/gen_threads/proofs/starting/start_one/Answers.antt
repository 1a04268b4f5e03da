use Rattle.gen_threads.proofs.Gathering.{passes_of}
use Rattle.gen_threads.proofs.starting.start_one.Goals as goal

pub returns-then-stopped-clause-err : goal.returns-then-stopped-clause-err
returns-then-stopped-clause-err g c =
    let work = c.args.work in
    let f = c.args.field in
    passes_of f.edges.now f.scenario.now 0 c.args.me work.passes.puts.items work.passes.takes.items c.requires.work.passes

use Rattle.std.proofs.Common.{sym, subst}
use Rattle.gen_threads.specs.Edges.{HaveCarried}
use Rattle.gen_threads.specs.Ending.{MayRunWith}
use Rattle.gen_threads.specs.Parts.{RunPart}
use Rattle.gen_threads.proofs.Gathering.{may_run}
use Rattle.library_tests.proofs.own_threads.run_seat.Goals as goal

pub run_general-requires-clause-ring : goal.run_general-requires-clause-ring
run_general-requires-clause-ring g c =
    subst (λ (p : RunPart). MayRunWith p.scenario p.me c.in_ok-ring.ring) (sym c.in_ok-part.ensures)
    (may_run c.args.scenario.now c.args.seat.me c.in_ok-ring.ring c.in_ok-ring.ensures)

pub run_general-requires-clause-passes : goal.run_general-requires-clause-passes
run_general-requires-clause-passes g c =
    subst (λ (p : RunPart). HaveCarried c.args.edges.now p.scenario 0 p.me c.args.seat.passes.puts.items c.args.seat.passes.takes.items) (sym c.in_ok-part.ensures) c.requires.new_passes

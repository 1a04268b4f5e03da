use Rattle.std.proofs.Common.{◌≡◌, ◌∙◌}
use Rattle.gen_net.specs.Header.{header_with}
use Rattle.gen_system.specs.Admitting.{header_of_run, roots_of_run}
use Rattle.gen_system.specs.RunNets.{network_of_run}
use Rattle.gen_system.specs.Runs.{version_of_run}
use Rattle.gen_system.proofs.RunHeaders.{header_made, no_fault}
use Rattle.gen_system.proofs.admitting.header_of.Goals as goal

pub unreachable-requires : goal.unreachable-requires
unreachable-requires c =
    let a = c.args.admission.now in
    let run = c.args.run in
    let read : c.header_in_run.result ≡ header_with (version_of_run a.system.header.version run) (network_of_run a.system run) (roots_of_run a run)
    = rw (c.version.ensures, c.header.ensures.value, c.in_ok-net.ensures.value, c.in_ok-roots.ensures, c.system-system.ensures.value) at c.header_in_run.ensures in
    no_fault (header_of_run a run) c.in-Err.field-0 c.header_in_run.result (read ∙ header_made a run) c.in-Err.is

use Rattle.std.proofs.Common.{map}
use Rattle.std.specs.List.{flat_map}
use Rattle.gen_scenario.specs.Rows.{logs_of_all}
use Rattle.gen_async.specs.Running.{logs_at, progress_of}
use Rattle.gen_async.proofs.Ending.{all_done, all_logs, logs_are}
use Rattle.gen_async.proofs.machine.Machine.finish.Goals as goal

pub finish_all-logs-requires : goal.finish_all-logs-requires
finish_all-logs-requires c =
    let i = c.self.inside in
    all_done i.scenario i.capacity (progress_of i.actors.items) i.actors.items (map (λ queue. queue.items) i.queues.items) c.self.invariant c.args.self c.self.view_is c.requires.done

pub returns : goal.returns
returns c =
    let i = c.self.inside in
    logs_are (λ logs. logs.items) c.finish_all-logs.result (flat_map logs_at i.actors.items) (logs_of_all c.args.self.scenario) c.finish_all-logs.ensures (all_logs i.scenario i.capacity (progress_of i.actors.items) i.actors.items (map (λ queue. queue.items) i.queues.items) c.self.invariant c.args.self c.self.view_is)

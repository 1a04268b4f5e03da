use Rattle.gen_async.proofs.ScenarioRuns.{begins_logs, puts_frames, writes_log}
use Rattle.gen_async.proofs.laws.scenario_runs.Goals as goal

pub returns-clause-frames : goal.returns-clause-frames
returns-clause-frames c = puts_frames

pub returns-clause-writes : goal.returns-clause-writes
returns-clause-writes c = writes_log

pub returns-clause-begins : goal.returns-clause-begins
returns-clause-begins c = begins_logs

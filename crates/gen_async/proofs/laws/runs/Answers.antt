use Rattle.gen_async.proofs.Running.{heard_before_put, run_law}
use Rattle.gen_async.proofs.laws.runs.Goals as goal

pub returns : goal.returns
returns g c = record { frames = run_law; heard = heard_before_put }

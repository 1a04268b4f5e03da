use Rattle.gen_async.proofs.Counting.{count_law}
use Rattle.gen_async.proofs.Movers.{mover_law}
use Rattle.gen_async.proofs.Steps.{queue_law}
use Rattle.gen_async.proofs.Where.{progress_law}
use Rattle.gen_async.proofs.laws.progress.Goals as goal

pub returns : goal.returns
returns c = record { by_next = progress_law; queues = queue_law; movers = mover_law; counts = count_law }

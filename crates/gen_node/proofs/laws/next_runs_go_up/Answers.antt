use Rattle.gen_node.proofs.NextRuns.{next_is_above, next_is_same, runs_go_up}
use Rattle.gen_node.proofs.laws.next_runs_go_up.Goals as goal

pub returns : goal.returns
returns c = record { above = next_is_above; same = next_is_same; ascending = runs_go_up }

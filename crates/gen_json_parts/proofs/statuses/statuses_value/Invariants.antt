use Rattle.std.proofs.Common.{◌≡◌, map}
use Rattle.std.specs.List.{range_with_len}
use Rattle.serde_json.specs.View.{view}
use Rattle.gen_convict.specs.Evidence.{told_of}
use Rattle.gen_facts.specs.Statuses.{status_of}
use Rattle.gen_json_parts.specs.StatusData.{status_data}
use Rattle.gen_json_parts.proofs.statuses.statuses_value.Given as goal

abbrev pub invariant-loop-number : goal.invariant-loop-number
invariant-loop-number l = map view l.list.items ≡ map (λ g. status_data g (status_of l.faulty l.findings (map told_of l.convictions) g)) (range_with_len 0 l.number)

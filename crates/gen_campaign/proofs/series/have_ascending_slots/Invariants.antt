use Rattle.std.proofs.Common.{◌≡◌, length}
use Rattle.gen_campaign.specs.Series.{ascend_from}
use Rattle.gen_campaign.proofs.series.have_ascending_slots.Given as goal

abbrev pub invariant-rest : goal.invariant-rest
invariant-rest l = ascend_from l.least l.rest ≡ ascend_from 0 l.scenarios

abbrev pub decreases-rest : goal.decreases-rest
decreases-rest l = length l.rest

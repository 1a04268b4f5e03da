use Rattle.std.proofs.Common.{◌≡◌, ◌++◌, length}
use Rattle.gen_verdicts.specs.CampaignVerdictText.{verdict_texts}
use Rattle.gen_verdicts.proofs.printing.put_verdicts.Given as goal

abbrev pub invariant-runs : goal.invariant-runs
invariant-runs l = l.out.items ++ verdict_texts l.runs l.rest ≡ l.fn.out.items ++ verdict_texts l.bundles l.judgements

abbrev pub decreases-runs : goal.decreases-runs
decreases-runs l = length l.runs

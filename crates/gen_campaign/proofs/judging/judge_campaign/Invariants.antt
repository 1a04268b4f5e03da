use Rattle.std.proofs.Common.{◌≡◌, map, take}
use Rattle.gen_campaign.specs.Judged.{AreJudged}
use Rattle.gen_campaign.proofs.judging.judge_campaign.Given as goal

abbrev pub invariant-runs : goal.invariant-runs
invariant-runs l = AreJudged (take l.place l.bundles) l.judgements.items

abbrev pub invariant-loop-bundle : goal.invariant-loop-bundle
invariant-loop-bundle l = l.headers.items ≡ map (λ b. b.header) (take l.bundle-index l.bundles)

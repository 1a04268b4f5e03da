use Rattle.std.proofs.Common.{◌≡◌, take}
use Rattle.gen_campaign.specs.FileRuns.{run_ids}
use Rattle.gen_campaign.proofs.run_lists.run_ids.Given as goal

abbrev pub invariant-bundles : goal.invariant-bundles
invariant-bundles l = l.ids.items ≡ run_ids (take l.bundle-index l.bundles)

use Rattle.std.proofs.Common.{◌≡◌, ◌++◌, ◌∙◌, codes, false, length, string_bytes, sym}
use Rattle.gen_campaign.specs.CampaignParts.{campaign_front_length}
use Rattle.gen_show.specs.CampaignText.{campaign_line}
use Rattle.gen_show.specs.BundleText.{run_lines}
use Rattle.gen_show.proofs.Chains.{behind, both, ended}
use Rattle.gen_show.proofs.campaigns.push_campaign.Goals as goal

pub returns-in_ok-push_runs : goal.returns-in_ok-push_runs
unfolding campaign_line
returns-in_ok-push_runs c =
    let several : c.args.campaign.now.alone ≡ false = sym c.is_alone.ensures.value ∙ c.if-is_alone.false in
    rw (several, ← c.bundles-bundles.ensures.value)
    (behind _ (string_bytes c.args.out.now) (campaign_line (length c.bundles-bundles.result.now) ++ run_lines 0 campaign_front_length c.bundles-bundles.result.now) _
    (codes "end campaign\n") _
    (both (string_bytes c.args.out.now) (campaign_line (length c.bundles-bundles.result.now)) (run_lines 0 campaign_front_length c.bundles-bundles.result.now) _ _
    c.in_ok-write.ensures.bytes c.in_ok-push_runs.ensures)
    (ended _ _ _ _ c.push_str.ensures.bytes))

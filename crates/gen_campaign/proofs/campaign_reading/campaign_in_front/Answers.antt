use Rattle.std.proofs.Common.{◌≡◌, true, ◌∙◌, sym, arith}
use Rattle.std.specs.Arc.{arc_slice_items}
use Rattle.gen_campaign.specs.CampaignReading.{is_marked}
use Rattle.gen_campaign.proofs.CampaignLaws.{behind_marked}
use Rattle.gen_campaign.proofs.campaign_reading.campaign_in_front.Goals as goal

pub read_several-requires : goal.read_several-requires
read_several-requires c =
    let is : is_marked c.args.bytes.now ≡ true = sym c.is_marked.ensures ∙ c.if-is_marked.true in
    rw c.split_at.ensures.back (behind_marked (arc_slice_items c.args.input.now) c.args.bytes.now (λ i. omega (arith, c.type_inv.bytes i)) is c.requires)

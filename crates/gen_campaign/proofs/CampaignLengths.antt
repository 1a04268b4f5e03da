-- How long the parts of a campaign are.
use Rattle.std.proofs.Common.{◌≡◌, ℕ, ◌+◌, ◌<◌, ◌^◌, Bool, true, false, List, [], ◌∷◌, length, refl, sym, ap, ◌∙◌, arith}
use Rattle.std.specs.Prelude.{sum_by}
use Rattle.std.specs.List.{flat_map}
use Rattle.std.proofs.lemmas.List.{length-append}
use Rattle.std.proofs.lemmas.List.Concat.{flat_map-cons}
use Rattle.std.proofs.lemmas.List.Sums.{sum_by-cons}
use Rattle.gen_types.specs.Spelled.{Spells}
use Rattle.gen_audit.specs.Bundle.{Bundle}
use Rattle.gen_audit.specs.BundleSpelling.{bundle_spelling}
use Rattle.gen_file.specs.Parts.{bundle_length}
use Rattle.gen_file.proofs.BundleLengths.{length_bundle}
use Rattle.gen_campaign.specs.Campaign.{CampaignBundle, IsCampaign}
use Rattle.gen_campaign.specs.CampaignSpelling.{campaign_front, campaign_spelling, front_with}
use Rattle.gen_campaign.specs.CampaignParts.{HaveRoom}

length_bundles : (bs : List Bundle) → length (flat_map bundle_spelling bs) ≡ sum_by bundle_length bs
length_bundles [] = refl
length_bundles (b ∷ bs) =
    ap length (flat_map-cons bundle_spelling b bs) ∙ length-append (bundle_spelling b) (flat_map bundle_spelling bs)
    ∙ (λ i. length_bundle b i + length_bundles bs i) ∙ sym (sum_by-cons bundle_length b bs)

-- the bundles end where the bytes do
within : (c : CampaignBundle) (bytes : List ℕ) → Spells IsCampaign campaign_spelling bytes c → length bytes ≡ length (campaign_front c) + sum_by bundle_length c.bundles
within c bytes is =
    ap length is.spelled ∙ length-append (campaign_front c) (flat_map bundle_spelling c.bundles) ∙ (λ i. length (campaign_front c) + length_bundles c.bundles i)

room_with : (alone : Bool) (bundles : List Bundle) → length (front_with alone bundles) + sum_by bundle_length bundles < 2 ^ 64 → HaveRoom alone bundles
room_with true bundles few =
    let small : 0 + sum_by bundle_length bundles < 2 ^ 64 = few in
    omega (arith, small)
room_with false bundles few = few

pub campaign_has_room : (c : CampaignBundle) (bytes : List ℕ) → Spells IsCampaign campaign_spelling bytes c → length bytes < 2 ^ 64 → HaveRoom c.alone c.bundles
campaign_has_room c bytes is few = room_with c.alone c.bundles (omega (arith, few, within c bytes is))

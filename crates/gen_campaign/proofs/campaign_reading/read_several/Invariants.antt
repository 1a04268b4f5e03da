use Rattle.std.proofs.Common.{◌≡◌, ◌-◌, [], length}
use Rattle.std.specs.Arc.{arc_slice_items}
use Rattle.gen_types.proofs.ManyFields.{with_front}
use Rattle.gen_audit.specs.Ends.{IsEndOf}
use Rattle.gen_campaign.specs.CampaignReading.{runs_at}
use Rattle.gen_campaign.proofs.campaign_reading.read_several.Given as goal

abbrev pub invariant-loop-place : goal.invariant-loop-place
invariant-loop-place l = record {
  read : with_front l.bundles.items (runs_at l.bundles.items (l.count - l.place) l.rest) ≡ runs_at [] l.count l.initial.rest;
  counted : length l.bundles.items ≡ l.place;
  end : IsEndOf (arc_slice_items l.input) l.rest;
}

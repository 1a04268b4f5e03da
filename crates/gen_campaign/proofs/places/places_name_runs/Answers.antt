use Rattle.gen_campaign.proofs.PlaceLaws.{places_name_runs}
use Rattle.gen_campaign.proofs.places.places_name_runs.Goals as goal

pub returns : goal.returns
returns c = places_name_runs

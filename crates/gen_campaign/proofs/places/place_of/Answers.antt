use Rattle.gen_net.specs.SameHeaders.{same_header}
use Rattle.gen_campaign.proofs.PlaceLaws.{none_has, one_has}
use Rattle.gen_campaign.proofs.places.place_of.Goals as goal

pub returns-in-None : goal.returns-in-None
returns-in-None c = none_has (λ b. same_header b.header c.args.header.now) c.args.bundles.now c.in-None.ensures

pub returns-in-Some : goal.returns-in-Some
returns-in-Some c = one_has (λ b. same_header b.header c.args.header.now) c.args.bundles.now c.in-Some.place c.in-Some.ensures

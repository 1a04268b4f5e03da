use Rattle.std.proofs.Common.{arith}
use Rattle.std.specs.Arc.{arc_slice_items}
use Rattle.gen_campaign.proofs.RunLaws.{behind_run}
use Rattle.gen_campaign.proofs.campaign_reading.read_run.Goals as goal

pub returns-clause-end : goal.returns-clause-end
returns-clause-end c =
    behind_run (arc_slice_items c.args.input.now) c.args.bytes.now c.args.place (c.in_ok-bundle.bundle, c.in_ok-bundle.rest.now) (λ i. omega (arith, c.type_inv.bytes i)) c.in_ok-bundle.ensures c.requires.end

use Rattle.std.proofs.Common.{◌≡◌, ◌∙◌, ap, inl, subst}
use Rattle.gen_net.specs.Header.{RunHeader}
use Rattle.gen_net.specs.Network.{Network}
use Rattle.gen_walks.specs.BestWalks.{AreBestWalks}
use Rattle.gen_audit.proofs.RunBundles.{are_listed}
use Rattle.library_tests.proofs.judged_gates.walks_of.Goals as goal

pub returns-in-Ok : goal.returns-in-Ok
returns-in-Ok c =
    let s = c.args.scenario.now in
    let is_net : c.net-net.result.now ≡ s.net = c.net-net.ensures.value ∙ ap (λ (h : RunHeader). h.network) c.header.ensures.value in
    let best = subst (λ (net : Network). AreBestWalks net c.rest.result c.in-Ok.walks) is_net c.in-Ok.ensures.best in
    are_listed s c.rest.result c.in-Ok.walks c.header.ensures.scenario (inl best)

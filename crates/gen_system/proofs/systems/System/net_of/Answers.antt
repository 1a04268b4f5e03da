use Rattle.std.proofs.Common.{◌≡◌, subst}
use Rattle.gen_net.specs.Network.{IsNetwork}
use Rattle.gen_system.specs.declared.proposers.Proposer.TheVariants.{Turns}
use Rattle.gen_system.specs.RunNets.{IsNetOfRun, network_by}
use Rattle.gen_system.specs.Systems.{RunSystem}
use Rattle.gen_system.proofs.RunNetLaws.{if_ok, moved_by}
use Rattle.gen_system.proofs.systems.System.net_of.Goals as goal

pub returns-in-Turns-clause-moved : goal.returns-in-Turns-clause-moved
returns-in-Turns-clause-moved c =
    let s = c.args.self.now in
    let net = c.net-net.result.now in
    let ok : IsNetwork s.header.network = subst (λ (x : RunSystem). IsNetwork x.header.network) c.self.view_is c.self.invariant.header.network in
    let same : net ≡ s.header.network = subst (λ (x : RunSystem). net ≡ x.header.network) c.self.view_is c.net-net.ensures.value in
    let turns : s.proposer ≡ Turns = subst (λ (x : RunSystem). x.proposer ≡ Turns) c.self.view_is c.in-Turns.is in
    if_ok c.turned_net.result (λ made. made ≡ network_by Turns net c.args.run) (IsNetOfRun s c.args.run) (λ made e. moved_by s net made c.args.run ok same turns e) c.turned_net.ensures

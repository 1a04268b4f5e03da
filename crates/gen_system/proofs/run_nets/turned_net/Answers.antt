use Rattle.std.proofs.Common.{◌≡◌, ◌∙◌, Ok, sym}
use Rattle.gen_types.proofs.Steps.{ok_is}
use Rattle.gen_types.specs.Spelled.{IsRead}
use Rattle.gen_net.specs.declared.fault.HeaderFault.{HeaderFault}
use Rattle.gen_net.specs.NetworkOf.{network_of}
use Rattle.gen_system.specs.declared.proposers.Proposer.TheVariants.{Turns}
use Rattle.gen_system.specs.RunNets.{network_by, turned}
use Rattle.gen_system.proofs.RunNetLaws.{never, numbers_of, turned_made}
use Rattle.gen_system.proofs.run_nets.turned_net.Goals as goal

pub returns-in-Ok : goal.returns-in-Ok
returns-in-Ok c =
    let net = c.args.net.now in
    let read : network_of (numbers_of net) (turned net.generals c.args.run net.edges) ≡ Ok c.in-Ok.made
    = rw (c.generals.ensures.value, c.traitors.ensures, c.diameter.ensures, c.orders.ensures.value, c.number.ensures, c.choice.ensures, c.deref.ensures.value, c.in_ok-edges.ensures) at c.in-Ok.ensures in
    ok_is {F = HeaderFault} c.in-Ok.made (network_by Turns net c.args.run) (sym read ∙ turned_made net c.generals.ensures.network c.args.run)

pub unreachable-requires : goal.unreachable-requires
unreachable-requires c =
    let net = c.args.net.now in
    let given : IsRead c.new-made.result (network_of (numbers_of net) (turned net.generals c.args.run net.edges))
    = rw (c.generals.ensures.value, c.traitors.ensures, c.diameter.ensures, c.orders.ensures.value, c.number.ensures, c.choice.ensures, c.deref.ensures.value, c.in_ok-edges.ensures) at c.new-made.ensures in
    let fault = rw c.in-Err-Fault.is at c.in-Err-Fault.field-0-is in
    never c.new-made.result c.in-Err-Fault.field-0 c.in-Err-Fault.field-0-0 _ (network_by Turns net c.args.run) given (turned_made net c.generals.ensures.network c.args.run) c.in-Err-Fault.is fault

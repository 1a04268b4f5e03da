use Rattle.std.proofs.Common.{◌≡◌, Result, Err, refl}
use Rattle.gen_types.specs.declared.reading.ReadError.{ReadError}
use Rattle.gen_types.specs.declared.reading.ReadError.TheVariants as errors
use Rattle.gen_types.specs.Reading.{Fails}
use Rattle.gen_net.specs.declared.fault.HeaderFault.{HeaderFault}
use Rattle.gen_net.specs.Network.{Network}
use Rattle.gen_net.specs.NetworkOf.{network_of}
use Rattle.gen_text.proofs.numbers.make_network.Goals as goal

told : (e : ReadError HeaderFault) (f : HeaderFault) (made : Result Network HeaderFault) → e ≡ errors.Fault f → Fails e made → made ≡ Err f
told errors.Memory f made p h = absurd cc
told (errors.Fault g) f made p h = cc

pub returns-in-Err-Fault : goal.returns-in-Err-Fault
returns-in-Err-Fault c =
    let is = rw c.in-Err-Fault.is at c.in-Err-Fault.field-0-is in
    let same : network_of c.args.numbers c.args.edges.now ≡ Err c.in-Err-Fault.fault = told c.in-Err-Fault.field-0 c.in-Err-Fault.fault _ is (rw c.in-Err-Fault.is at c.new-made.ensures) in
    rw (c.refused.ensures, same) refl

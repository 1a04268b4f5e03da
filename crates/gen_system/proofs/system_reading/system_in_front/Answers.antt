use Rattle.std.proofs.Common.{◌≡◌, Ok, arith, refl}
use Rattle.gen_system.specs.SystemReading.{system_at}
use Rattle.gen_system.specs.Systems.{RunSystem}
use Rattle.gen_system.proofs.SystemLaws.{systems_read}
use Rattle.gen_system.proofs.system_reading.system_in_front.Goals as goal

pub invariant_of-system : goal.invariant_of-system
unfolding system_at
invariant_of-system c =
    let made : RunSystem = record { header = c.in_ok-header.header; proposer = c.in_ok-proposer.proposer; levels = c.in_ok-levels.levels; context = c.copy_from_slice.new.self } in
    let read : system_at c.args.bytes.now ≡ Ok (made, c.in_ok-chosen.rest.now)
    = rw (c.in_ok-header.ensures, c.in_ok-proposer.ensures, c.in_ok-levels.ensures, c.in_ok-chosen.ensures.exact, c.copy_from_slice.ensures.after) refl in
    (systems_read.takes c.args.bytes.now (made, c.in_ok-chosen.rest.now) (λ i. omega (arith, c.type_inv.bytes i)) read).1

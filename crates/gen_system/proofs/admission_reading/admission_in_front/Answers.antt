use Rattle.std.proofs.Common.{◌≡◌, Ok, arith, refl}
use Rattle.gen_types.specs.Bytes.{many_at}
use Rattle.gen_system.specs.AdmissionReading.{admission_at, opened_at, set_at}
use Rattle.gen_system.specs.Admissions.{SetAdmission}
use Rattle.gen_system.proofs.AdmissionLaws.{admissions_read}
use Rattle.gen_system.proofs.admission_reading.admission_in_front.Goals as goal

pub invariant_of-admission : goal.invariant_of-admission
unfolding admission_at
invariant_of-admission c =
    let made : SetAdmission = record { system = c.in_ok-system.system; set = c.in_ok-set.set; opened = c.in_ok-opened.opened.items } in
    let set : set_at made.system.levels c.in_ok-system.rest.now ≡ Ok (c.in_ok-set.set, c.in_ok-set.rest.now)
    = rw c.levels-levels.ensures.value at c.in_ok-set.ensures in
    let opened : many_at (opened_at made.system.levels) made.system.header.network.generals c.in_ok-set.rest.now ≡ Ok (c.in_ok-opened.opened.items, c.in_ok-opened.rest.now)
    = rw (c.levels-levels.ensures.value, c.generals-nodes.ensures.value, c.net.ensures.value, c.header.ensures.value) at c.in_ok-opened.ensures in
    let read : admission_at c.args.bytes.now ≡ Ok (made, c.in_ok-opened.rest.now)
    = rw (c.in_ok-system.ensures, set, opened) refl in
    (admissions_read.takes c.args.bytes.now (made, c.in_ok-opened.rest.now) (λ i. omega (arith, c.type_inv.bytes i)) read).1

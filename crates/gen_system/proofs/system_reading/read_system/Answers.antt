use Rattle.std.proofs.Common.{◌≡◌, ◌-◌, ◌∙◌, length, Ok, arith, refl, rules, sym}
use Rattle.gen_types.specs.Spelled.{counted, IsRead}
use Rattle.gen_types.proofs.Front.{front_read, front_again, front_only, front_shorter}
use Rattle.gen_system.specs.SystemReading.{system_at}
use Rattle.gen_system.specs.Systems.{IsSystem, system_spelling}
use Rattle.gen_system.proofs.SystemLaws.{systems_read}
use Rattle.gen_system.proofs.system_reading.read_system.Goals as goal

pub overflow_sub-result : goal.overflow_sub-result
overflow_sub-result c = front_shorter system_at system_spelling IsSystem systems_read c.args.bytes.now _ _ (λ i. omega (arith, c.type_inv.bytes i)) c.in_ok-system.ensures

pub returns-clause-found : goal.returns-clause-found
returns-clause-found c =
    let read : counted system_at c.args.bytes.now ≡ Ok (c.in_ok-system.system, length c.args.bytes.now - length c.in_ok-system.rest.now) = rw c.in_ok-system.ensures refl in
    front_read system_at system_spelling IsSystem systems_read c.args.bytes.now _ (λ i. omega (arith, c.type_inv.bytes i)) read

pub returns-clause-only : goal.returns-clause-only
returns-clause-only c = λ x stands.
    let read : counted system_at c.args.bytes.now ≡ Ok (c.in_ok-system.system, length c.args.bytes.now - length c.in_ok-system.rest.now) = rw c.in_ok-system.ensures refl in
    sym (front_again system_at system_spelling IsSystem systems_read c.args.bytes.now x stands) ∙ read

pub returns-in_err-system-clause-only : goal.returns-in_err-system-clause-only
returns-in_err-system-clause-only c =
    let given : IsRead c.from_residual.result (counted system_at c.args.bytes.now) = search rules in
    front_only system_at system_spelling IsSystem systems_read c.args.bytes.now c.from_residual.result given

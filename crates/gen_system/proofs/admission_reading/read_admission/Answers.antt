use Rattle.std.proofs.Common.{◌≡◌, ◌-◌, ◌∙◌, length, Ok, arith, refl, rules, sym}
use Rattle.gen_types.specs.Spelled.{counted, IsRead}
use Rattle.gen_types.proofs.Front.{front_read, front_again, front_only, front_shorter}
use Rattle.gen_system.specs.AdmissionReading.{admission_at}
use Rattle.gen_system.specs.Admissions.{IsAdmission, admission_spelling}
use Rattle.gen_system.proofs.AdmissionLaws.{admissions_read}
use Rattle.gen_system.proofs.admission_reading.read_admission.Goals as goal

pub overflow_sub-result : goal.overflow_sub-result
overflow_sub-result c = front_shorter admission_at admission_spelling IsAdmission admissions_read c.args.bytes.now _ _ (λ i. omega (arith, c.type_inv.bytes i)) c.in_ok-admission.ensures

pub returns-clause-found : goal.returns-clause-found
returns-clause-found c =
    let read : counted admission_at c.args.bytes.now ≡ Ok (c.in_ok-admission.admission, length c.args.bytes.now - length c.in_ok-admission.rest.now) = rw c.in_ok-admission.ensures refl in
    front_read admission_at admission_spelling IsAdmission admissions_read c.args.bytes.now _ (λ i. omega (arith, c.type_inv.bytes i)) read

pub returns-clause-only : goal.returns-clause-only
returns-clause-only c = λ x stands.
    let read : counted admission_at c.args.bytes.now ≡ Ok (c.in_ok-admission.admission, length c.args.bytes.now - length c.in_ok-admission.rest.now) = rw c.in_ok-admission.ensures refl in
    sym (front_again admission_at admission_spelling IsAdmission admissions_read c.args.bytes.now x stands) ∙ read

pub returns-in_err-admission-clause-only : goal.returns-in_err-admission-clause-only
returns-in_err-admission-clause-only c =
    let given : IsRead c.from_residual.result (counted admission_at c.args.bytes.now) = search rules in
    front_only admission_at admission_spelling IsAdmission admissions_read c.args.bytes.now c.from_residual.result given

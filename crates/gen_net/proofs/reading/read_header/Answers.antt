use Rattle.std.proofs.Common.{◌≡◌, ◌-◌, ◌∙◌, length, Ok, arith, refl, rules, sym}
use Rattle.gen_types.specs.Spelled.{counted, IsRead}
use Rattle.gen_types.proofs.Front.{front_read, front_again, front_only, front_shorter}
use Rattle.gen_net.specs.Header.{IsHeader, header_spelling}
use Rattle.gen_net.specs.HeaderReading.{header_at}
use Rattle.gen_net.proofs.HeaderLaws.{header_reads}
use Rattle.gen_net.proofs.reading.read_header.Goals as goal

pub overflow_sub-result : goal.overflow_sub-result
overflow_sub-result c = front_shorter header_at header_spelling IsHeader header_reads c.args.bytes.now _ _ (λ i. omega (arith, c.type_inv.bytes i)) c.in_ok-header.ensures

pub returns-clause-found : goal.returns-clause-found
returns-clause-found c =
    let read : counted header_at c.args.bytes.now ≡ Ok (c.in_ok-header.header, length c.args.bytes.now - length c.in_ok-header.rest.now) = rw c.in_ok-header.ensures refl in
    front_read header_at header_spelling IsHeader header_reads c.args.bytes.now _ (λ i. omega (arith, c.type_inv.bytes i)) read

pub returns-clause-only : goal.returns-clause-only
returns-clause-only c = λ h stands.
    let read : counted header_at c.args.bytes.now ≡ Ok (c.in_ok-header.header, length c.args.bytes.now - length c.in_ok-header.rest.now) = rw c.in_ok-header.ensures refl in
    sym (front_again header_at header_spelling IsHeader header_reads c.args.bytes.now h stands) ∙ read

pub returns-in_err-header-clause-only : goal.returns-in_err-header-clause-only
returns-in_err-header-clause-only c =
    let given : IsRead c.from_residual.result (counted header_at c.args.bytes.now) = search rules in
    front_only header_at header_spelling IsHeader header_reads c.args.bytes.now c.from_residual.result given

use Rattle.std.proofs.Common.{◌≡◌, ◌∙◌, drop, Ok, refl, sym, ap}
use Rattle.std.proofs.lemmas.List.{drop_at}
use Rattle.gen_types.specs.Spelled.{IsReadFrom}
use Rattle.gen_net.specs.Header.{IsHeader, header_spelling}
use Rattle.gen_net.specs.HeaderReading.{header_at}
use Rattle.gen_net.proofs.HeaderLaws.{header_reads}
use Rattle.gen_system.proofs.system_reading.read_any_header.Goals as goal

pub returns-in-Ok : goal.returns-in-Ok
returns-in-Ok c =
    let found : IsReadFrom IsHeader header_spelling c.args.bytes.now (c.in-Ok.header, c.in-Ok.count) = c.in-Ok.ensures.found in
    let rest = found.stands.rest in
    let read : header_at c.args.bytes.now ≡ Ok (c.in-Ok.header, rest)
    = ap header_at found.stands.parts ∙ header_reads.again c.in-Ok.header rest found.stands.fits in
    let back : c.split_at.result.1.now ≡ rest
    = c.split_at.ensures.back ∙ ap (drop c.in-Ok.count) found.stands.parts
    ∙ drop_at (header_spelling c.in-Ok.header) rest c.in-Ok.count (sym found.counted) in
    rw (read, back) refl

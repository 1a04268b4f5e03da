use Rattle.std.proofs.Common.{false}
use Rattle.std.specs.Bool.{nat_eq}
use Rattle.gen_net.specs.Departs.{DepartsAt}
use Rattle.gen_local.specs.Erased.{erased}
use Rattle.gen_convict.proofs.Sealed.{departing_told, found_told, none_told}
use Rattle.gen_convict.proofs.checking.is_departing_at.Goals as goal

pub returns-in-Some-departs : goal.returns-in-Some-departs
returns-in-Some-departs c =
    let found = rw c.in-Some.is at c.in_ok-sealed_log.ensures.found in
    let index = c.in-Some-departs.index in
    departing_told c.args.header.now c.args.general c.args.bytes.now c.in-Some.log c.args.entry (nat_eq index c.args.entry) c.in_ok-sealed_log.ensures.header found
    (found_told (DepartsAt c.args.header.now.network c.args.general (erased c.in-Some.log.entries)) c.departs.result index c.args.entry c.in-Some-departs.is (c.departs.ensures.departs c.args.general found.says.starts))

pub returns : goal.returns
returns c =
    let found = rw c.in-Some.is at c.in_ok-sealed_log.ensures.found in
    departing_told c.args.header.now c.args.general c.args.bytes.now c.in-Some.log c.args.entry false c.in_ok-sealed_log.ensures.header found (
      (λ t. absurd cc),
      (λ d. absurd (none_told (DepartsAt c.args.header.now.network c.args.general (erased c.in-Some.log.entries)) c.departs.result c.args.entry c.in-None-departs.is (c.departs.ensures.departs c.args.general found.says.starts) d)),
    )

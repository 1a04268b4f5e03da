use Rattle.std.proofs.Common.{◌≡◌, Some, cond, arith, ap, length, ◌∙◌}
use Rattle.gen_match.proofs.Keys.{small_room}
use Rattle.gen_match.proofs.Strays.{begin_step, found_small, last_told}
use Rattle.gen_match.proofs.derived.rest_begin.Goals as goal

pub loop-general-preserved : goal.loop-general-preserved
loop-general-preserved c =
    let long = ap length c.in-Some.ensures.cases.0 in
    let number = c.longer-number.result in
    let was = rw c.then_some.ensures at c.or-found.ensures in
    let new : c.or-found.result ≡ cond c.is_rest.result (Some number) c.loop-general.found = was ∙ last_told c.is_rest.result number c.loop-general.found in
    record {
      value = begin_step c.args.header.now.network c.args.faulty.now c.loop-general.number c.longer-number.result c.in-Some.general.now c.loop-general.found c.or-found.result c.loop-general.rest.now c.in-Some.others.now _ c.in-Some.ensures.cases.0 c.longer-number.ensures.value (rw c.is_rest.ensures at new) c.loop-general.invariant.value;
      room = omega (arith, c.loop-general.invariant.room, long);
      below = c.longer-number.ensures.small;
      found_below = found_small _ c.is_rest.result c.longer-number.result c.loop-general.found (small_room c.longer-number.result _ (omega (arith, c.loop-general.invariant.room, long)) c.longer-number.ensures.small) new c.loop-general.invariant.found_below;
    }

use Rattle.std.proofs.Common.{◌≡◌, ◌∙◌, ap, arith, subst}
use Rattle.std.specs.List.{flat_map}
use Rattle.gen_net.specs.Network.{Network}
use Rattle.gen_local.specs.Erased.{erased}
use Rattle.gen_match.specs.Messages.{told_keys}
use Rattle.gen_match.specs.Reports.{told_logs}
use Rattle.gen_match.specs.Rest.{rest_entries, AreSmall}
use Rattle.gen_match.proofs.Rest.{range_step, small_step}
use Rattle.gen_match.proofs.messages.find_keys.Goals as goal

pub loop-number-preserved : goal.loop-number-preserved
loop-number-preserved c = record {
  keys_so_far = range_step (λ g. flat_map (told_keys c.args.side c.args.counted.now g) (rest_entries c.args.header.now.network c.args.faulty.now (told_logs c.args.reports.now) g)) c.loop-number.number c.loop-number.keys.items c.put_messages.new.keys.items c.loop-number.invariant.keys_so_far (rw (c.rest_entries-entries.ensures, c.at-general.ensures) at c.in_ok-put_messages.ensures.keys);
  small_so_far = small_step c.args.header.now.network c.args.faulty.now (told_logs c.args.reports.now) c.loop-number.number (erased c.rest_entries-entries.result.now) c.loop-number.invariant.small_so_far c.in_ok-put_messages.ensures.small (rw c.at-general.ensures at c.rest_entries-entries.ensures);
}

pub returns-clause-keys : goal.returns-clause-keys
returns-clause-keys c =
    let n : c.loop-number.number ≡ c.args.header.now.network.generals = omega (arith, c.loop-number-test.false, c.loop-number.auto.number-end, c.generals-number-end.ensures.value ∙ ap (λ (w : Network). w.generals) c.net.ensures.value) in
    rw (c.loop-number.invariant.keys_so_far, n) at c.in_ok-sort_apart.ensures

pub returns-clause-small : goal.returns-clause-small
returns-clause-small c =
    let n : c.loop-number.number ≡ c.args.header.now.network.generals = omega (arith, c.loop-number-test.false, c.loop-number.auto.number-end, c.generals-number-end.ensures.value ∙ ap (λ (w : Network). w.generals) c.net.ensures.value) in
    subst (AreSmall c.args.header.now.network c.args.faulty.now (told_logs c.args.reports.now)) n c.loop-number.invariant.small_so_far

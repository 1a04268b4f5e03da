use Rattle.std.proofs.Common.{◌≡◌, ◌∙◌, ap, arith}
use Rattle.std.specs.List.{flat_map}
use Rattle.gen_net.specs.Network.{Network}
use Rattle.gen_match.specs.Reports.{told_logs}
use Rattle.gen_match.specs.Rest.{rest_entries}
use Rattle.gen_match.specs.Underivables.{entry_keys}
use Rattle.gen_match.proofs.Rest.{range_step}
use Rattle.gen_match.proofs.sources.find_sources.Goals as goal

pub loop-number-preserved : goal.loop-number-preserved
loop-number-preserved c = range_step (λ g. flat_map (entry_keys c.args.faulty.now) (rest_entries c.args.header.now.network c.args.faulty.now (told_logs c.args.reports.now) g)) c.loop-number.number c.loop-number.keys.items c.put_sources.new.keys.items c.loop-number.invariant (rw (c.rest_entries-entries.ensures, c.at.ensures) at c.in_ok-put_sources.ensures)

pub returns : goal.returns
returns c =
    let n : c.loop-number.number ≡ c.args.header.now.network.generals = omega (arith, c.loop-number-test.false, c.loop-number.auto.number-end, c.generals-number-end.ensures.value ∙ ap (λ (w : Network). w.generals) c.net.ensures.value) in
    rw (c.loop-number.invariant, n) at c.in_ok-sort_apart.ensures

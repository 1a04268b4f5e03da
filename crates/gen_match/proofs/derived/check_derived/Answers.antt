use Rattle.std.proofs.Common.{◌≡◌, ◌∙◌, ap, arith, sym, subst, map}
use Rattle.std.specs.List.{flat_map}
use Rattle.gen_net.specs.Network.{Network}
use Rattle.gen_local.specs.Erased.{erased}
use Rattle.gen_match.specs.Findings.{AreFindings}
use Rattle.gen_match.specs.Matching.{FindsUnderivable}
use Rattle.gen_match.specs.Reports.{told_logs}
use Rattle.gen_match.specs.declared.kinds.Kind.TheVariants.{Stray}
use Rattle.gen_match.specs.Rest.{rest_entries, AreSmall}
use Rattle.gen_match.specs.Underivables.{found_at}
use Rattle.gen_match.specs.Ranks.{finding_at}
use Rattle.gen_match.proofs.Rest.{range_step, small_step}
use Rattle.gen_match.proofs.Strays.{strays_found, then_ok}
use Rattle.gen_match.proofs.derived.check_derived.Goals as goal

pub loop-number-preserved : goal.loop-number-preserved
loop-number-preserved c = record {
  ranks_so_far = range_step (λ g. flat_map (found_at c.in_ok-sources.sources.items c.args.header.now.network c.args.faulty.now g) (rest_entries c.args.header.now.network c.args.faulty.now (told_logs c.args.reports.now) g)) c.loop-number.number c.loop-number.ranks.items c.find_entries.new.ranks.items c.loop-number.invariant.ranks_so_far (rw (c.rest_entries-entries.ensures, c.at-general.ensures) at rw c.as_slice.ensures.value at c.in_ok-find_entries.ensures.ranks);
  small_so_far = small_step c.args.header.now.network c.args.faulty.now (told_logs c.args.reports.now) c.loop-number.number (erased c.rest_entries-entries.result.now) c.loop-number.invariant.small_so_far c.in_ok-find_entries.ensures.small (rw c.at-general.ensures at c.rest_entries-entries.ensures);
}

pub returns : goal.returns
returns c =
    let n : c.loop-number.number ≡ c.args.header.now.network.generals = omega (arith, c.loop-number-test.false, c.loop-number.auto.number-end, c.generals-number-end.ensures.value ∙ ap (λ (w : Network). w.generals) c.net-net.ensures.value) in
    let small = subst (AreSmall c.args.header.now.network c.args.faulty.now (told_logs c.args.reports.now)) n c.loop-number.invariant.small_so_far in
    let ranks = rw (c.loop-number.invariant.ranks_so_far, n) at c.in_ok-sort_apart.ensures in
    let all = strays_found c.in_ok-sources.sources.items c.sort_apart.new.numbers.items c.args.header.now.network c.args.faulty.now (told_logs c.args.reports.now) c.in_ok-sources.ensures small c.net-net.ensures.header.network.ranges.few_generals ranks in
    then_ok (λ f. f.items ≡ map (finding_at Stray) c.as_slice-2.result.now) (λ f. AreFindings (FindsUnderivable c.args.header.now.network c.args.faulty.now (told_logs c.args.reports.now)) f.items) c.findings_at.result
    (λ f e. subst (AreFindings (FindsUnderivable c.args.header.now.network c.args.faulty.now (told_logs c.args.reports.now))) (sym (e ∙ ap (map (finding_at Stray)) c.as_slice-2.ensures.value)) all)
    c.findings_at.ensures

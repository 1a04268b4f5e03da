use Rattle.std.proofs.Common.{List, map, subst, ◌∙◌}
use Rattle.std.specs.List.{AllZip}
use Rattle.std.proofs.lemmas.List.{take_all, map-append}
use Rattle.gen_audit.specs.Bundle.{Bundle}
use Rattle.gen_audit.specs.Telling.{AreReports}
use Rattle.gen_campaign.proofs.Zips.{reports_more}
use Rattle.gen_campaign.proofs.auditing.audit_campaign.Goals as goal

pub loop-bundle-preserved : goal.loop-bundle-preserved
loop-bundle-preserved g c =
    let made = rw (c.header-header.ensures.value, c.exhibits-exhibits.ensures) at c.in_ok-reports.ensures.reports in
    rw (c.in_ok-keep.ensures, map-append) (reports_more c.bundles-bundles.result.now (map (λ v. v.items) c.loop-bundle.seen.items) c.loop-bundle.bundle-index c.bundle-item.result c.in_ok-reports.reports.items c.loop-bundle-test.true c.bundle-item.is c.loop-bundle.invariant made)

pub judge_campaign-requires : goal.judge_campaign-requires
judge_campaign-requires g c =
    let all = take_all c.loop-bundle.bundle-index c.bundles-bundles.result.now c.loop-bundle-test.false ∙ c.bundles-bundles.ensures.value in
    rw c.as_slice.ensures.value (subst (λ (bs : List Bundle). AllZip AreReports bs (map (λ v. v.items) c.loop-bundle.seen.items)) all c.loop-bundle.invariant)

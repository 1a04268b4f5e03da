use Rattle.std.proofs.Common.{◌≡◌, ◌∙◌, List, length, map, sym, ap, subst, arith}
use Rattle.std.specs.List.{AllZip}
use Rattle.std.proofs.lemmas.List.{take_all, length-map}
use Rattle.std.proofs.lemmas.Slice.Zip.{AllZip-long}
use Rattle.gen_net.specs.Header.{RunHeader}
use Rattle.gen_audit.specs.Bundle.{Bundle}
use Rattle.gen_audit.specs.Telling.{AreReports}
use Rattle.gen_convict.specs.Across.{ShownRun}
use Rattle.gen_convict.specs.AcrossFinding.{runs_of}
use Rattle.gen_convict.specs.AcrossLaws.{AreConvictedAcross, AreUnderHeaders, ConvictsAcrossWhereHeld, shown_runs}
use Rattle.gen_convict.specs.Evidence.{told_of}
use Rattle.gen_campaign.specs.Campaign.{AreShown, IsAlone}
use Rattle.gen_campaign.specs.Judged.{AreJudged, IsJudged, shown_bundles}
use Rattle.gen_campaign.proofs.OtherSlots.{alone_apart, none_told}
use Rattle.gen_campaign.proofs.Zips.{all_under, as_many, reports_there, same_shown, zip_more}
use Rattle.gen_campaign.proofs.judging.judge_campaign.Goals as goal

pub bounds-seen-place : goal.bounds-seen-place
bounds-seen-place c =
    let reports = map (λ v. v.items) c.args.seen.now in
    let zip : AllZip AreReports c.bundles-bundles.result.now reports = subst (λ (bs : List Bundle). AllZip AreReports bs reports) (sym c.bundles-bundles.ensures.value) c.requires in
    omega (arith, length-map c.args.seen.now (λ v. v.items), AllZip-long AreReports c.bundles-bundles.result.now reports zip, c.runs-test.true)

pub judge_reports-requires : goal.judge_reports-requires
judge_reports-requires c =
    let reports = map (λ v. v.items) c.args.seen.now in
    let zip : AllZip AreReports c.bundles-bundles.result.now reports = subst (λ (bs : List Bundle). AllZip AreReports bs reports) (sym c.bundles-bundles.ensures.value) c.requires in
    rw c.as_slice.ensures.value (reports_there c.bundles-bundles.result.now c.args.seen.now (λ v. v.items) c.runs.place c.index-bundles-place.result c.index-seen-place.result zip c.runs-test.true c.index-bundles-place.is c.index-seen-place.is)

pub runs-preserved : goal.runs-preserved
runs-preserved c =
    let b = c.index-bundles-place.result in
    let j = c.in_ok-judgement.judgement in
    let e = c.in_ok-judgement.ensures in
    let judged : IsJudged b j = record { verdict = e.verdict; headline = e.headline; convictions = e.convictions; held = e.held; lawful = e.lawful } in
    rw c.in_ok-push.ensures.items (zip_more IsJudged c.bundles-bundles.result.now c.runs.judgements.items c.runs.place b j c.runs-test.true c.index-bundles-place.is c.runs.invariant judged)

pub find_across-requires-clause-count : goal.find_across-requires-clause-count
find_across-requires-clause-count c =
    ap (λ (hs : List RunHeader). length hs) (c.as_slice-2.ensures.value ∙ (c.loop-bundle.invariant ∙ ap (λ (bs : List Bundle). map (λ b. b.header) bs) (take_all c.loop-bundle.bundle-index c.bundles-bundles.result.now c.loop-bundle-test.false ∙ c.bundles-bundles.ensures.value))) ∙ (as_many c.args.campaign.now.bundles (map (λ v. v.items) c.args.seen.now) c.requires ∙ length-map c.args.seen.now (λ v. v.items))

pub find_across-requires-clause-under : goal.find_across-requires-clause-under
find_across-requires-clause-under c =
    let lists = map (λ v. v.items) c.args.seen.now in
    subst (λ (hs : List RunHeader). AreUnderHeaders (runs_of hs lists)) (sym (c.as_slice-2.ensures.value ∙ (c.loop-bundle.invariant ∙ ap (λ (bs : List Bundle). map (λ b. b.header) bs) (take_all c.loop-bundle.bundle-index c.bundles-bundles.result.now c.loop-bundle-test.false ∙ c.bundles-bundles.ensures.value)))) (all_under c.args.campaign.now.bundles lists c.requires)

pub returns-clause-judged : goal.returns-clause-judged
returns-clause-judged c =
    subst (λ (bs : List Bundle). AreJudged bs c.runs.judgements.items) (take_all c.runs.place c.bundles-bundles.result.now c.runs-test.false ∙ c.bundles-bundles.ensures.value) c.runs.invariant

pub returns-clause-across : goal.returns-clause-across
returns-clause-across c =
    let lists = map (λ v. v.items) c.args.seen.now in
    let same = ap (λ (hs : List RunHeader). shown_runs (runs_of hs lists)) (c.as_slice-2.ensures.value ∙ (c.loop-bundle.invariant ∙ ap (λ (bs : List Bundle). map (λ b. b.header) bs) (take_all c.loop-bundle.bundle-index c.bundles-bundles.result.now c.loop-bundle-test.false ∙ c.bundles-bundles.ensures.value))) ∙ same_shown c.args.campaign.now.bundles lists c.requires in
    subst (λ (runs : List ShownRun). AreConvictedAcross runs (map told_of c.in_ok-across.across.items)) same c.in_ok-across.ensures.found

pub returns-clause-held : goal.returns-clause-held
returns-clause-held c =
    let lists = map (λ v. v.items) c.args.seen.now in
    let same = ap (λ (hs : List RunHeader). shown_runs (runs_of hs lists)) (c.as_slice-2.ensures.value ∙ (c.loop-bundle.invariant ∙ ap (λ (bs : List Bundle). map (λ b. b.header) bs) (take_all c.loop-bundle.bundle-index c.bundles-bundles.result.now c.loop-bundle-test.false ∙ c.bundles-bundles.ensures.value))) ∙ same_shown c.args.campaign.now.bundles lists c.requires in
    subst (λ (runs : List ShownRun). ConvictsAcrossWhereHeld runs (map told_of c.in_ok-across.across.items)) same c.in_ok-across.ensures.held

pub returns-clause-alone : goal.returns-clause-alone
returns-clause-alone c = λ is.
    let bundles = c.args.campaign.now.bundles in
    let found = c.in_ok-across.across.items in
    let lists = map (λ v. v.items) c.args.seen.now in
    let alone : IsAlone bundles = subst (λ a. AreShown a bundles) is c.bundles-bundles.ensures.campaign in
    let same = ap (λ (hs : List RunHeader). shown_runs (runs_of hs lists)) (c.as_slice-2.ensures.value ∙ (c.loop-bundle.invariant ∙ ap (λ (bs : List Bundle). map (λ b. b.header) bs) (take_all c.loop-bundle.bundle-index c.bundles-bundles.result.now c.loop-bundle-test.false ∙ c.bundles-bundles.ensures.value))) ∙ same_shown bundles lists c.requires in
    let across : AreConvictedAcross (shown_bundles bundles) (map told_of found) = subst (λ (runs : List ShownRun). AreConvictedAcross runs (map told_of found)) same c.in_ok-across.ensures.found in
    none_told told_of found (c.other_slots_convict_nobody.ensures (shown_bundles bundles) (map told_of found) (alone_apart bundles alone) across)

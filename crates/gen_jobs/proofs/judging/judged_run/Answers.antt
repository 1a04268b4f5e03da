use Rattle.std.proofs.Common.{rules, ◌≡◌, ◌∙◌, List, ℕ, ap, subst, sym}
use Rattle.gen_log.specs.Fields.{AreBelow}
use Rattle.gen_net.specs.Header.{RunHeader}
use Rattle.gen_net.specs.Network.{Network}
use Rattle.gen_scenario.specs.Scenario.{scripted}
use Rattle.gen_audit.specs.Bundle.{Bundle}
use Rattle.gen_audit.specs.WorldBundle.{AreWalksOfRun, HasWalks, bundle_of, run_bundle}
use Rattle.gen_campaign.specs.Judged.{IsJudged}
use Rattle.gen_jobs.proofs.JudgedRuns.{scripted_below, walks_listed}
use Rattle.gen_jobs.proofs.judging.judged_run.Goals as goal

pub run_and_audit_bundle-requires-clause-faulty : goal.run_and_audit_bundle-requires-clause-faulty
run_and_audit_bundle-requires-clause-faulty g c = λ κs _.
    let s = c.args.scenario.now in
    let is_faulty : c.scripted-faulty.result ≡ scripted s.scripts = search rules in
    subst (λ (xs : List ℕ). AreBelow s.net.generals xs) (sym is_faulty) (scripted_below s c.header-header.ensures.scenario)

pub run_and_audit_bundle-requires-clause-walks : goal.run_and_audit_bundle-requires-clause-walks
run_and_audit_bundle-requires-clause-walks g c = λ κs _.
    let s = c.args.scenario.now in
    let is_net : c.net-net.result.now ≡ s.net = c.net-net.ensures.value ∙ ap (λ (h : RunHeader). h.network) c.header-header.ensures.value in
    let between = subst (λ (net : Network). AreWalksOfRun net c.rest.result c.in_ok-walks.walks) is_net c.in_ok-walks.ensures in
    walks_listed s c.rest.result c.in_ok-walks.walks c.header-header.ensures.scenario between

pub returns : goal.returns
returns g c =
    let s = c.args.scenario.now in
    let walks = c.in_ok-walks.walks in
    let is_net : c.net-net.result.now ≡ s.net = c.net-net.ensures.value ∙ ap (λ (h : RunHeader). h.network) c.header-header.ensures.value in
    let between = subst (λ (net : Network). AreWalksOfRun net c.rest.result walks) is_net c.in_ok-walks.ensures in
    let has : HasWalks s walks = record { rest = c.rest.result; of_rest = search rules; walks_are = between } in
    let is_faulty : c.scripted-faulty.result ≡ scripted s.scripts = search rules in
    let made = c.in_ok-bundle in
    let is_bundle : made.bundle ≡ bundle_of s walks = made.ensures.bundle ∙ ap (λ (f : List ℕ). run_bundle s f walks) is_faulty in
    let own : IsJudged (run_bundle s c.scripted-faulty.result walks) made.judgement = record {
      verdict = made.ensures.verdict;
      headline = made.ensures.headline;
      convictions = made.ensures.convictions;
      held = made.ensures.held;
      lawful = made.ensures.lawful;
    } in
    ((walks, has, is_bundle), subst (λ (b : Bundle). IsJudged b made.judgement) (sym made.ensures.bundle) own)

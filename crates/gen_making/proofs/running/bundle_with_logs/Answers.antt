use Rattle.std.proofs.Common.{rules, ◌≡◌, ◌∙◌, Ok, sym, ap, subst}
use Rattle.gen_net.specs.Header.{RunHeader}
use Rattle.gen_net.specs.Network.{Network}
use Rattle.gen_scenario.specs.Scenario.{header_of, scripted}
use Rattle.gen_scenario.specs.Rows.{logs_of_all}
use Rattle.gen_audit.specs.WorldBundle.{AreWalksOfRun, HasWalks, bundle_of}
use Rattle.gen_types.proofs.Steps.{ok_is}
use Rattle.gen_audit.specs.declared.bundle_fault.BundleFault.{BundleFault}
use Rattle.gen_making.proofs.Bundling.{made_of, made_ok}
use Rattle.gen_making.proofs.running.bundle_with_logs.Goals as goal

pub unwrap-requires : goal.unwrap-requires
unwrap-requires c =
    let s = c.args.scenario.now in
    let walks = c.in_ok-walks.walks in
    let is_header : c.in_ok-header.header ≡ header_of s = search rules in
    let is_net : c.net-net.result.now ≡ s.net = c.net-net.ensures.value ∙ ap (λ (h : RunHeader). h.network) is_header in
    let between = subst (λ (net : Network). AreWalksOfRun net c.rest.result walks) is_net c.in_ok-walks.ensures in
    let has : HasWalks s walks = record { rest = c.rest.result; of_rest = search rules; walks_are = between } in
    let is_faulty : c.scripted-faulty.result ≡ scripted s.scripts = search rules in
    let is_shown : c.in_ok-exhibits.exhibits.items ≡ logs_of_all s = c.in_ok-exhibits.ensures ∙ c.requires in
    let made = made_of s c.in_ok-header.header c.scripted-faulty.result walks c.in_ok-exhibits.exhibits.items c.header.ensures.scenario has is_header is_faulty is_shown in
    made_ok c.new.result (bundle_of s walks) (c.new.ensures ∙ made)

pub returns : goal.returns
returns c =
    let s = c.args.scenario.now in
    let walks = c.in_ok-walks.walks in
    let is_header : c.in_ok-header.header ≡ header_of s = search rules in
    let is_net : c.net-net.result.now ≡ s.net = c.net-net.ensures.value ∙ ap (λ (h : RunHeader). h.network) is_header in
    let between = subst (λ (net : Network). AreWalksOfRun net c.rest.result walks) is_net c.in_ok-walks.ensures in
    let has : HasWalks s walks = record { rest = c.rest.result; of_rest = search rules; walks_are = between } in
    let is_faulty : c.scripted-faulty.result ≡ scripted s.scripts = search rules in
    let is_shown : c.in_ok-exhibits.exhibits.items ≡ logs_of_all s = c.in_ok-exhibits.ensures ∙ c.requires in
    let made = made_of s c.in_ok-header.header c.scripted-faulty.result walks c.in_ok-exhibits.exhibits.items c.header.ensures.scenario has is_header is_faulty is_shown in
    (walks, has, ok_is {F = BundleFault} c.unwrap.result (bundle_of s walks) (sym c.unwrap.ensures ∙ c.new.ensures ∙ made))

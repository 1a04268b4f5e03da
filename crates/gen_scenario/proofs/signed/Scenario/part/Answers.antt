use Rattle.std.proofs.Common.{◌≡◌, ◌<◌, ◌≤◌, ◌∙◌, ℕ, List, length, map, sym, ap, subst, eqb, Some}
use Rattle.std.specs.Bool.{then_some}
use Rattle.std.proofs.lemmas.List.{take_all}
use Rattle.gen_net.specs.Header.{IsHeader}
use Rattle.gen_script.specs.Script.{Script}
use Rattle.gen_scenario.specs.Scenario.{header_of, script_of, scripted}
use Rattle.gen_scenario.specs.Part.{IsPart, signer_tree}
use Rattle.gen_scenario.proofs.KnownParts.{knows, own_told, script_known}
use Rattle.gen_scenario.proofs.signed.Scenario.part.Goals as goal

pub invariant_of-result-in-Some : goal.invariant_of-result-in-Some
invariant_of-result-in-Some c =
    let s = c.args.self.now in
    let g = c.args.general in
    let lines = c.in_ok-script-in-Some.script.lines in
    let header : c.in_ok-header.header ≡ header_of s = c.in_ok-header.ensures.cases ∙ c.header.ensures.value in
    let found : script_of s.scripts g ≡ Some lines =
    ap (λ (xs : List Script). script_of xs g) (sym c.scripts.ensures) ∙ sym c.in-Some.ensures ∙ ap (λ (x : Script). Some x.lines) (sym c.in_ok-script-in-Some.ensures.cases) in
    let own = c.then_some-own.ensures ∙ ap (λ (o : ℕ). then_some c.eq.result o) c.order.ensures.value ∙ own_told s g c.eq.result (c.eq.ensures ∙ ap (λ (k : ℕ). eqb g k) c.commander.ensures) in
    let past : length s.scripts ≤ c.signers.signer-index = subst (λ (xs : List Script). length xs ≤ c.signers.signer-index) c.scripts-signer-items.ensures c.signers-test.false in
    let trees : c.signers.trees.items ≡ map (signer_tree s) (scripted s.scripts) = c.signers.invariant ∙ ap (λ (xs : List Script). map (signer_tree s) (scripted xs)) (take_all c.signers.signer-index s.scripts past) in
    let whole = knows s c.header.ensures.scenario (subst IsHeader header c.net-is_header.ensures.header) g c.requires (Some lines) found in
    subst IsPart (λ i. record {
      header = sym header i;
      me = g;
      own = sym own i;
      script = Some lines;
      trees = sym trees i;
    }) whole

pub tree-requires : goal.tree-requires
tree-requires c =
    let low = script_known c.args.self.now c.header.ensures.scenario c.scripts-signer-items.result.now c.signers.signer-index c.signer-item.result c.scripts-signer-items.ensures c.signers-test.true c.signer-item.is in
    subst (λ g. g < c.args.self.now.net.generals) (sym c.general-number.ensures) low

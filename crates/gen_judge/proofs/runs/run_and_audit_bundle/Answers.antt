use Rattle.std.proofs.Common.{◌≡◌, ◌∙◌, map, sym, ap, subst}
use Rattle.gen_convict.specs.Convictions.{AreConvictions, AreEvidence, ConvictsWhereHeld}
use Rattle.gen_convict.specs.Evidence.{told_of}
use Rattle.gen_types.proofs.Steps.{ok_is}
use Rattle.gen_audit.specs.Bundle.{Bundle}
use Rattle.gen_audit.specs.BundleMaking.{bundle_with}
use Rattle.gen_audit.specs.Headline.{Headline}
use Rattle.gen_audit.specs.Verdict.{IsVerdict}
use Rattle.gen_audit.specs.WorldBundle.{run_bundle}
use Rattle.gen_audit.specs.declared.bundle_fault.BundleFault.{BundleFault}
use Rattle.gen_judge.proofs.Bundling.{made_of, made_ok}
use Rattle.gen_judge.proofs.runs.run_and_audit_bundle.Goals as goal

pub unwrap-bundle-requires : goal.unwrap-bundle-requires
unwrap-bundle-requires g c =
    let s = c.args.scenario.now in let faulty = c.args.faulty.now in let walks = c.args.walks.now in
    let header = c.in_ok-header.ensures.cases ∙ c.header.ensures.value in
    made_ok c.new.result (run_bundle s faulty walks)
    (c.new.ensures ∙ ap (λ w. bundle_with c.in_ok-header.header faulty w c.in_ok-exhibits.exhibits.items) c.in_ok-copied.ensures.cases
    ∙ made_of s c.in_ok-header.header faulty walks c.in_ok-exhibits.exhibits.items c.header.ensures.scenario c.requires.faulty c.requires.walks header (c.in_ok-exhibits.ensures ∙ c.in_ok-logs.ensures))

pub returns : goal.returns
returns g c =
    let s = c.args.scenario.now in let faulty = c.args.faulty.now in let walks = c.args.walks.now in
    let header = c.in_ok-header.ensures.cases ∙ c.header.ensures.value in
    let told = c.in_ok-judgement.judgement in
    let is : c.unwrap-bundle.result ≡ run_bundle s faulty walks = ok_is {F = BundleFault} c.unwrap-bundle.result (run_bundle s faulty walks)
    (sym c.unwrap-bundle.ensures ∙ c.new.ensures ∙ ap (λ w. bundle_with c.in_ok-header.header faulty w c.in_ok-exhibits.exhibits.items) c.in_ok-copied.ensures.cases
    ∙ made_of s c.in_ok-header.header faulty walks c.in_ok-exhibits.exhibits.items c.header.ensures.scenario c.requires.faulty c.requires.walks header (c.in_ok-exhibits.ensures ∙ c.in_ok-logs.ensures)) in
    record {
      bundle = is;
      verdict = subst (λ (b : Bundle). IsVerdict b told.verdict) is c.in_ok-judgement.ensures.verdict;
      headline = subst (λ (b : Bundle). Headline b told.verdict) is c.in_ok-judgement.ensures.headline;
      convictions = subst (λ (b : Bundle). AreConvictions b.header b.exhibits (map told_of told.convictions.items)) is c.in_ok-judgement.ensures.convictions;
      held = subst (λ (b : Bundle). ConvictsWhereHeld b.header b.exhibits (map told_of told.convictions.items)) is c.in_ok-judgement.ensures.held;
      lawful = subst (λ (b : Bundle). AreEvidence b.header (map told_of told.convictions.items)) is c.in_ok-judgement.ensures.lawful;
    }

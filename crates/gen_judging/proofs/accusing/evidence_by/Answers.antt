use Rattle.std.proofs.Common.{List, map, sym, subst}
use Rattle.std.proofs.lemmas.Result.{IfOk-weaker}
use Rattle.gen_audit.specs.Bundle.{Bundle}
use Rattle.gen_convict.specs.declared.evidence.Evidence.{Evidence}
use Rattle.gen_convict.specs.AcrossLaws.{AreEvidenceAcross}
use Rattle.gen_convict.specs.Evidence.{told_of}
use Rattle.gen_judging.specs.Accusing.{AccusesWithin, AreOfRuns, TellsAcross}
use Rattle.gen_judging.proofs.AccusedRuns.{accuses_across, are_of_runs, not_false, not_true, runs_across, runs_within}
use Rattle.gen_judging.proofs.accusing.evidence_by.Goals as goal

pub accusation_across-requires-clause-evidence : goal.accusation_across-requires-clause-evidence
accusation_across-requires-clause-evidence c = subst (λ (es : List Evidence). AreEvidenceAcross (map told_of es)) (sym c.as_slice.ensures.value) c.requires.lawful

pub accusation_across-requires-clause-claims : goal.accusation_across-requires-clause-claims
accusation_across-requires-clause-claims c = subst (λ (es : List Evidence). AreOfRuns (map told_of es)) (sym c.as_slice.ensures.value) (are_of_runs _ _ c.requires.across)

pub returns-then-not-within : goal.returns-then-not-within
returns-then-not-within c =
    let output = c.in_ok-within.within in
    let within = subst (λ (bs : List Bundle). AccusesWithin bs c.args.general output.text.items output.negative) c.bundles.ensures.value c.in_ok-within.ensures in
    runs_within c.args.campaign.now.bundles c.args.general output.text.items output.negative (not_true output.negative c.if-not-within.true) within

pub returns : goal.returns
returns c =
    let bundles = c.args.campaign.now.bundles in
    let first = c.in_ok-within.within in
    let within = subst (λ (bs : List Bundle). AccusesWithin bs c.args.general first.text.items first.negative) c.bundles.ensures.value c.in_ok-within.ensures in
    IfOk-weaker c.accusation_across.result _ _ (λ output it.
    let told = subst (λ (es : List Evidence). TellsAcross (map told_of es) c.args.general output.text.items output.negative) c.as_slice.ensures.value it in
    runs_across bundles c.args.general output.text.items first.text.items output.negative first.negative (not_false first.negative c.if-not-within.false) within (accuses_across bundles _ c.args.general output.text.items output.negative c.requires.across c.requires.held told)) c.accusation_across.ensures

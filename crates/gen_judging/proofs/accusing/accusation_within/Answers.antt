use Rattle.std.proofs.Common.{[], List, false, map, true, refl, subst, arith}
use Rattle.std.specs.Prelude.{All}
use Rattle.std.proofs.lemmas.List.{take_all}
use Rattle.gen_net.specs.Header.{RunHeader}
use Rattle.gen_audit.specs.Bundle.{Bundle}
use Rattle.gen_convict.specs.declared.evidence.Evidence.{Evidence}
use Rattle.gen_convict.specs.Convictions.{AreEvidence}
use Rattle.gen_convict.specs.Evidence.{told_of}
use Rattle.gen_judging.specs.Accusing.{HoldsNone, TellsOf}
use Rattle.gen_judging.proofs.Accused.{accuses, convicted, unconvicted, unfound}
use Rattle.gen_judging.proofs.AccusedRuns.{as_many_judged, judged_there, none_here, told_within}
use Rattle.gen_judging.proofs.accusing.accusation_within.Goals as goal

pub bounds-judgements-place : goal.bounds-judgements-place
bounds-judgements-place c = omega (arith, as_many_judged c.args.bundles.now c.args.judgements.now c.requires, c.runs-test.true)

pub write_evidence-requires : goal.write_evidence-requires
write_evidence-requires c =
    let one = judged_there c.args.bundles.now c.args.judgements.now c.runs.place c.index-bundles-place.result c.index-judgements-place.result c.requires c.runs-test.true c.index-bundles-place.is in
    let lawful : AreEvidence c.header.result.now (map told_of c.as_slice-convictions.result.now) = rw (c.header.ensures.value, c.as_slice-convictions.ensures.value) one.lawful in
    let his = convicted c.args.general c.as_slice-convictions.result.now c.in-Some.evidence.now c.in-Some.ensures in
    lawful (told_of c.in-Some.evidence.now) his.0

pub returns-in-Some : goal.returns-in-Some
returns-in-Some c =
    let b = c.index-bundles-place.result in
    let general = c.args.general in
    let text = c.in_ok-write_evidence.field-0.items in
    let one = judged_there c.args.bundles.now c.args.judgements.now c.runs.place b c.index-judgements-place.result c.requires c.runs-test.true c.index-bundles-place.is in
    let his = convicted general c.as_slice-convictions.result.now c.in-Some.evidence.now c.in-Some.ensures in
    let told : TellsOf c.header.result.now (map told_of c.as_slice-convictions.result.now) general text false = (told_of c.in-Some.evidence.now, his.0, his.1, c.in_ok-write_evidence.ensures) in
    let here = subst (λ (h : RunHeader). TellsOf h (map told_of c.as_slice-convictions.result.now) general text false) c.header.ensures.value told in
    let all = subst (λ (es : List Evidence). TellsOf b.header (map told_of es) general text false) c.as_slice-convictions.ensures.value here in
    told_within c.args.bundles.now c.runs.place b general text false c.runs-test.true c.index-bundles-place.is c.runs.invariant (accuses b _ general text false one.convictions all) refl

pub runs-preserved : goal.runs-preserved
runs-preserved c =
    let b = c.index-bundles-place.result in
    let general = c.args.general in
    let one = judged_there c.args.bundles.now c.args.judgements.now c.runs.place b c.index-judgements-place.result c.requires c.runs-test.true c.index-bundles-place.is in
    let convictions = c.as_slice-convictions.result.now in
    let none = unconvicted general convictions (unfound c.conviction_of.result general convictions c.conviction_of.ensures c.in_default.not-Some) in
    let all = subst (λ (es : List Evidence). TellsOf b.header (map told_of es) general [] true) c.as_slice-convictions.ensures.value (none, refl) in
    none_here c.args.bundles.now c.runs.place b general [] true c.runs-test.true c.index-bundles-place.is c.runs.invariant (accuses b _ general [] true one.convictions all) refl

pub returns : goal.returns
returns c =
    (subst (λ (xs : List Bundle). All (HoldsNone c.args.general) xs) (take_all c.runs.place c.args.bundles.now c.runs-test.false) c.runs.invariant, c.new.ensures.items)

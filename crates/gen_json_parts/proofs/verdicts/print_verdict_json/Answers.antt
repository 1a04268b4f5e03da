use Rattle.std.proofs.Common.{Some, ap, map, ◌∙◌, subst, ◌≤◌, sym}
use Rattle.std.proofs.lemmas.Result.{IfOk-weaker}
use Rattle.serde_json.specs.Data.{Data, depth}
use Rattle.serde_json.specs.Written.{has_float}
use Rattle.gen_convict.specs.Evidence.{told_of}
use Rattle.gen_json.specs.Line.{ReadsAs, json_line}
use Rattle.gen_json_parts.proofs.PlainVerdicts.{judgement_plain, judgement_within}
use Rattle.gen_json_parts.proofs.verdicts.print_verdict_json.Goals as goal

pub returns-clause-text : goal.returns-clause-text
returns-clause-text c =
    let plain = judgement_plain (Some c.args.origin.now) c.args.bundle.now c.args.judgement.now.verdict (map told_of c.args.judgement.now.convictions.items) in
    IfOk-weaker c.value_line.result _ _
    (λ line h. h (ap has_float c.in_ok-value.ensures ∙ plain) ∙ ap (λ (d : Data). json_line d) c.in_ok-value.ensures)
    c.value_line.ensures.text

pub returns-clause-reads : goal.returns-clause-reads
returns-clause-reads c =
    let within = judgement_within (Some c.args.origin.now) c.args.bundle.now c.args.judgement.now.verdict (map told_of c.args.judgement.now.convictions.items) in
    IfOk-weaker c.value_line.result _ _
    (λ line h. subst (λ (d : Data). ReadsAs line.items d) c.in_ok-value.ensures
    (h (subst (λ (d : Data). depth d ≤ 127) (sym c.in_ok-value.ensures) within)))
    c.value_line.ensures.reads

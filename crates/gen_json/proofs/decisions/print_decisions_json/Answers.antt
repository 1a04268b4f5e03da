use Rattle.std.proofs.Common.{ap, ◌∙◌, subst, ◌≤◌, sym}
use Rattle.std.proofs.lemmas.Result.{IfOk-weaker}
use Rattle.serde_json.specs.Data.{Data, depth}
use Rattle.serde_json.specs.Written.{has_float}
use Rattle.gen_json.specs.Line.{ReadsAs, json_line}
use Rattle.gen_json.proofs.PlainDecisions.{decisions_plain, decisions_shallow}
use Rattle.gen_json.proofs.decisions.print_decisions_json.Goals as goal

pub returns-clause-text : goal.returns-clause-text
returns-clause-text c =
    let plain = decisions_plain c.args.net.now c.args.run c.args.faulty.now c.args.decisions.now in
    IfOk-weaker c.value_line.result _ _
    (λ line h. h (ap has_float c.in_ok-value.ensures ∙ plain) ∙ ap (λ (d : Data). json_line d) c.in_ok-value.ensures)
    c.value_line.ensures.text

pub returns-clause-reads : goal.returns-clause-reads
returns-clause-reads c =
    let within = decisions_shallow c.args.net.now c.args.run c.args.faulty.now c.args.decisions.now in
    IfOk-weaker c.value_line.result _ _
    (λ line h. subst (λ (d : Data). ReadsAs line.items d) c.in_ok-value.ensures
    (h (subst (λ (d : Data). depth d ≤ 127) (sym c.in_ok-value.ensures) within)))
    c.value_line.ensures.reads

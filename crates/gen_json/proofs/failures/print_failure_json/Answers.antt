use Rattle.std.proofs.Common.{◌≡◌, ap, ◌∙◌, subst, ◌≤◌, sym, rules}
use Rattle.std.specs.Prelude.{option_map}
use Rattle.std.proofs.lemmas.Result.{IfOk-weaker}
use Rattle.serde_json.specs.Data.{Data, depth}
use Rattle.serde_json.specs.View.{view}
use Rattle.serde_json.specs.Written.{has_float}
use Rattle.gen_json.specs.FailureData.{failure_data}
use Rattle.gen_json.specs.Line.{ReadsAs, json_line}
use Rattle.gen_json.proofs.PlainOrigins.{failure_plain, failure_within}
use Rattle.gen_json.proofs.failures.print_failure_json.Goals as goal

pub returns-clause-text : goal.returns-clause-text
returns-clause-text c =
    let line = c.args.line.now in
    let kind = option_map (λ t. t.now) c.args.kind in
    let name = option_map (λ t. t.now) c.args.name in
    let seen : view c.in_ok-value.value ≡ failure_data line kind name c.args.status = search rules in
    IfOk-weaker c.value_line.result _ _
    (λ line_of h. h (ap has_float seen ∙ failure_plain line kind name c.args.status) ∙ ap (λ (d : Data). json_line d) seen)
    c.value_line.ensures.text

pub returns-clause-reads : goal.returns-clause-reads
returns-clause-reads c =
    let line = c.args.line.now in
    let kind = option_map (λ t. t.now) c.args.kind in
    let name = option_map (λ t. t.now) c.args.name in
    let seen : view c.in_ok-value.value ≡ failure_data line kind name c.args.status = search rules in
    IfOk-weaker c.value_line.result _ _
    (λ line_of h. subst (λ (d : Data). ReadsAs line_of.items d) seen
    (h (subst (λ (d : Data). depth d ≤ 127) (sym seen) (failure_within line kind name c.args.status))))
    c.value_line.ensures.reads

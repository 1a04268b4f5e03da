use Rattle.std.proofs.Common.{◌≡◌, ap, ◌∙◌, subst, ◌≤◌, sym, rules}
use Rattle.std.specs.Prelude.{option_map}
use Rattle.std.proofs.lemmas.Result.{IfOk-weaker}
use Rattle.serde_json.specs.Data.{Data, depth}
use Rattle.serde_json.specs.View.{view}
use Rattle.serde_json.specs.Written.{has_float}
use Rattle.gen_json.specs.Line.{ReadsAs, json_line}
use Rattle.gen_program.specs.Many.{heading_data}
use Rattle.gen_program.proofs.Headings.{heading_plain, heading_within}
use Rattle.gen_program.proofs.many.json_heading.Goals as goal

pub returns-clause-text : goal.returns-clause-text
returns-clause-text c =
    let name = option_map (λ t. t.now) c.args.name in
    let seen : view c.in_ok-value.value ≡ heading_data name = search rules in
    IfOk-weaker c.value_line.result _ _ (λ line h. h (ap has_float seen ∙ heading_plain name) ∙ ap (λ (d : Data). json_line d) seen) c.value_line.ensures.text

pub returns-clause-reads : goal.returns-clause-reads
returns-clause-reads c =
    let name = option_map (λ t. t.now) c.args.name in
    let seen : view c.in_ok-value.value ≡ heading_data name = search rules in
    IfOk-weaker c.value_line.result _ _
    (λ line h. subst (λ (d : Data). ReadsAs line.items d) seen (h (subst (λ (d : Data). depth d ≤ 127) (sym seen) (heading_within name))))
    c.value_line.ensures.reads

use Rattle.std.proofs.Common.{◌≡◌, ◌∙◌, [], false, inl, inr, refl, sym, ap}
use Rattle.std.specs.Prelude.{option_to_list}
use Rattle.std.proofs.lemmas.List.{append-nil}
use Rattle.gen_types.proofs.Lists.{bool_cases}
use Rattle.gen_general.specs.Planned.{is_sent_in}
use Rattle.gen_scenario.specs.SignerTrees.{keys_with}
use Rattle.gen_general.proofs.Plans.{planned_none, planned_yes, planned_no}
use Rattle.gen_general.proofs.scripted.plan_round.Goals as goal
use Rattle.gen_general.proofs.scripted.plan_round.Goals.{in-Some+in_ok-push, in_default}

pub lines-init : goal.lines-init
lines-init c = c.new-planned.ensures.items ∙ sym (planned_none (keys_with c.args.header.now c.args.trees.now) c.args.me c.args.heard.now c.args.round)

pub lines-preserved-then-not-is_sent_in : goal.lines-preserved-then-not-is_sent_in
lines-preserved-then-not-is_sent_in c =
    let no : is_sent_in c.args.round c.line-item.result ≡ false = sym c.is_sent_in.ensures ∙ elim (bool_cases c.is_sent_in.result) [ inl t ↦ absurd cc | inr f ↦ f ] in
    planned_no (keys_with c.args.header.now c.args.trees.now) c.args.me c.args.lines.now c.args.heard.now c.args.round c.lines.line-index c.line-item.result c.lines.planned.items _ c.lines-test.true c.line-item.is
    no c.lines.invariant refl

pub lines-preserved : goal.lines-preserved
lines-preserved c =
    let keys = keys_with c.args.header.now c.args.trees.now in
    let old = c.lines.planned.items in
    let sent = sym c.is_sent_in.ensures ∙ c.if-not-is_sent_in.false in
    elim c.match-branch-2.branch [
      | in-Some+in_ok-push w ↦
          planned_yes keys c.args.me c.args.lines.now c.args.heard.now c.args.round c.lines.line-index c.line-item.result old _ _ c.lines-test.true c.line-item.is
          sent c.lines.invariant (sym (ap option_to_list w.in-Some.is) ∙ c.in_ok-one.ensures) (ap (λ v. v.items) w.planned-is ∙ w.in_ok-push.ensures.items)
      | in_default w ↦
          planned_yes keys c.args.me c.args.lines.now c.args.heard.now c.args.round c.lines.line-index c.line-item.result old [] _ c.lines-test.true c.line-item.is
          sent c.lines.invariant (sym (ap option_to_list w.in_default.is) ∙ c.in_ok-one.ensures) (ap (λ v. v.items) w.planned-is ∙ sym (append-nil old))
    ]

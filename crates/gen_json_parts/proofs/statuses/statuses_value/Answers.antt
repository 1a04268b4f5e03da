use Rattle.std.proofs.Common.{◌≡◌, ℕ, map, ap, ◌∙◌, rules}
use Rattle.serde_json.specs.View.{view}
use Rattle.gen_convict.specs.Evidence.{told_of}
use Rattle.gen_facts.specs.declared.statuses.Status.{Status}
use Rattle.gen_facts.specs.Statuses.{status_of}
use Rattle.gen_json_parts.specs.StatusData.{status_data}
use Rattle.gen_json_parts.proofs.Ranges.{pushed}
use Rattle.gen_json_parts.proofs.statuses.statuses_value.Goals as goal

pub loop-number-preserved : goal.loop-number-preserved
loop-number-preserved c =
    let status : ℕ → Status = λ g. status_of c.args.faulty.now c.args.findings.now (map told_of c.args.convictions.now) g in
    let seen : view c.in_ok-value.value ≡ status_data c.loop-number.number c.status_of-status.result = search rules in
    pushed view (λ g. status_data g (status g)) c.loop-number.number _ _ c.in_ok-value.value c.loop-number.invariant
    c.in_ok-push.ensures.ok
    (seen ∙ ap (λ s. status_data c.loop-number.number s) (c.status_of-status.ensures ∙ ap status c.at.ensures))

use Rattle.std.proofs.Common.{◌∙◌, ◌++◌, string_bytes}
use Rattle.gen_show.specs.EvidenceText.{departs_line}
use Rattle.gen_show.specs.LogText.{log_lines}
use Rattle.gen_show.proofs.Chains.{behind}
use Rattle.gen_show.proofs.evidence.push_claim.Goals as goal

pub returns-in_ok-push_log-in-Departing : goal.returns-in_ok-push_log-in-Departing
unfolding departs_line
returns-in_ok-push_log-in-Departing c =
    rw c.in-Departing.is
    (behind _ (string_bytes c.args.out.now) _ _ _ _
    (c.in_ok-push_log-in-Departing.ensures
    ∙ (λ i. string_bytes c.args.out.now ++ log_lines c.args.header.now c.args.accused (c.in_ok-at-in-Departing.ensures i) (c.as_slice-in-Departing-2.ensures.value i)))
    c.write.ensures.bytes)

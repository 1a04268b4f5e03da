use Rattle.std.proofs.Common.{codes, string_bytes}
use Rattle.gen_report.specs.Findings.{finding_line}
use Rattle.gen_report.specs.VerdictText.{decided_line}
use Rattle.gen_report.proofs.Headed.{all_behind}
use Rattle.gen_report.proofs.verdict_text.push_answer.Goals as goal

pub returns-after-loop-decision : goal.returns-after-loop-decision
returns-after-loop-decision c =
    rw c.in-Explained.is (all_behind decided_line (string_bytes c.loop-decision.out) (string_bytes c.push_str.new.self) (string_bytes c.args.out.now) (codes "verdict explained\n") c.loop-decision.decision-index c.as_slice-decisions.result.now _ c.loop-decision-test.false c.as_slice-decisions.ensures c.in_ok-push_str-in-Explained.ensures.bytes c.loop-decision.invariant)

pub returns-after-loop-finding : goal.returns-after-loop-finding
returns-after-loop-finding c =
    rw c.in-No.is (all_behind finding_line (string_bytes c.loop-finding.out) (string_bytes c.push_str-in-No.new.self) (string_bytes c.args.out.now) (codes "verdict no\n") c.loop-finding.finding-index c.as_slice-findings.result.now _ c.loop-finding-test.false c.as_slice-findings.ensures c.in_ok-push_str-in-No.ensures.bytes c.loop-finding.invariant)

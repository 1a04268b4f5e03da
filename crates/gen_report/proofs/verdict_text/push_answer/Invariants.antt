use Rattle.std.proofs.Common.{◌≡◌, ◌++◌, string_bytes, take}
use Rattle.std.specs.List.{flat_map}
use Rattle.gen_report.specs.Findings.{finding_line}
use Rattle.gen_report.specs.VerdictText.{decided_line}
use Rattle.gen_report.proofs.verdict_text.push_answer.Given as goal

abbrev pub invariant-loop-decision : goal.invariant-loop-decision
invariant-loop-decision l = string_bytes l.out ≡ string_bytes l.initial.out ++ flat_map decided_line (take l.decision-index l.decisions)

abbrev pub invariant-loop-finding : goal.invariant-loop-finding
invariant-loop-finding l = string_bytes l.out ≡ string_bytes l.initial.out ++ flat_map finding_line (take l.finding-index l.findings)

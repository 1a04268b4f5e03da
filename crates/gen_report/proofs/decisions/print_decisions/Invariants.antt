use Rattle.std.proofs.Common.{◌≡◌, string_bytes, take}
use Rattle.gen_report.specs.Decisions.{decisions_text}
use Rattle.gen_report.proofs.decisions.print_decisions.Given as goal

abbrev pub invariant-loop-decision : goal.invariant-loop-decision
invariant-loop-decision l = string_bytes l.out ≡ decisions_text (take l.decision-index l.decisions)

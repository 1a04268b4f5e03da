use Rattle.std.proofs.Common.{eqb, sym}
use Rattle.gen_text.proofs.Cuts.{has_part, line_at_is}
use Rattle.gen_text.proofs.lines.line_at.Goals as goal

pub returns-in-Some-clause-exact : goal.returns-in-Some-clause-exact
returns-in-Some-clause-exact c =
    let cut = rw c.in-Some.is at c.cut_line.ensures in
    line_at_is _ _ _ _ cut.0 (sym c.if-has_foreign.ensures) c.if-bytes-gt-LONGEST_LINE.false (has_part (λ b. eqb b 10) c.in-Some.rest.now)

use Rattle.std.proofs.Common.{sym, subst, ◌↔◌, IsTrue, IfOk}
use Rattle.gen_convict.specs.Contradictions.{IsContradiction}
use Rattle.gen_convict.specs.Told.{told}
use Rattle.gen_convict.proofs.checking.check_evidence.Goals as goal

pub returns-in-Missing : goal.returns-in-Missing
returns-in-Missing c = subst (λ k. IfOk c.is_missing_from.result (λ holds. IsTrue holds ↔ IsContradiction c.args.header.now c.args.evidence.now.accused (told k))) (sym c.in-Missing.is) (rw c.as_slice.ensures.value at c.is_missing_from.ensures)

pub returns-in-Departing : goal.returns-in-Departing
returns-in-Departing c = subst (λ k. IfOk c.is_departing_at.result (λ holds. IsTrue holds ↔ IsContradiction c.args.header.now c.args.evidence.now.accused (told k))) (sym c.in-Departing.is) (rw c.as_slice-in-Departing.ensures.value at c.is_departing_at.ensures)

pub returns-in-Across : goal.returns-in-Across
returns-in-Across c = subst (λ k. IsTrue c.is_across_from.result ↔ IsContradiction c.args.header.now c.args.evidence.now.accused (told k)) (sym c.in-Across.is) c.is_across_from.ensures

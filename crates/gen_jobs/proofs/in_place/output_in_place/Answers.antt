use Rattle.gen_judging.specs.Asking.{IsHeldFault}
use Rattle.gen_judging.proofs.AskedFaults.{by_more}
use Rattle.gen_jobs.proofs.in_place.output_in_place.Goals as goal

pub returns-in-Audit-clause-answer : goal.returns-in-Audit-clause-answer
returns-in-Audit-clause-answer c = rw c.in-Audit.is c.audit_in_place.ensures.answer

pub returns-in-Audit-clause-fault : goal.returns-in-Audit-clause-fault
returns-in-Audit-clause-fault c =
    rw c.in-Audit.is (by_more c.in-Audit.workers (IsHeldFault c.in-Audit.asked c.args.input.now) c.audit_in_place.result c.audit_in_place.ensures.fault)

pub returns-in-Draw-clause-answer : goal.returns-in-Draw-clause-answer
returns-in-Draw-clause-answer c = rw c.in-Draw.is c.draw_in_place.ensures.answer

pub returns-in-Draw-clause-fault : goal.returns-in-Draw-clause-fault
returns-in-Draw-clause-fault c =
    rw c.in-Draw.is (by_more c.in-Draw.workers (IsHeldFault c.in-Draw.asked c.args.input.now) c.draw_in_place.result c.draw_in_place.ensures.fault)

pub returns-in-Audit-clause-facts : goal.returns-in-Audit-clause-facts
returns-in-Audit-clause-facts c = rw c.in-Audit.is c.audit_in_place.ensures.facts

use Rattle.gen_jobs.proofs.answering.answer.Goals as goal

pub returns-in-Audit-clause-answer : goal.returns-in-Audit-clause-answer
returns-in-Audit-clause-answer g c = rw c.in-Audit.is c.audit.ensures.answer

pub returns-in-Audit-clause-fault : goal.returns-in-Audit-clause-fault
returns-in-Audit-clause-fault g c = rw c.in-Audit.is c.audit.ensures.fault

pub returns-in-Draw-clause-answer : goal.returns-in-Draw-clause-answer
returns-in-Draw-clause-answer g c = rw c.in-Draw.is c.draw.ensures.answer

pub returns-in-Draw-clause-fault : goal.returns-in-Draw-clause-fault
returns-in-Draw-clause-fault g c = rw c.in-Draw.is c.draw.ensures.fault

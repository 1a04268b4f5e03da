use Rattle.gen_audit.proofs.audits.verdict_by.Goals as goal

pub findings_in-requires-clause-rest : goal.findings_in-requires-clause-rest
findings_in-requires-clause-rest c = rw (← c.header.ensures.value, ← c.net.ensures.value, ← c.faulty.ensures) c.rest-rest.ensures

pub agreed_order-requires-clause-rest : goal.agreed_order-requires-clause-rest
agreed_order-requires-clause-rest c = rw (← c.header.ensures.value, ← c.net.ensures.value, ← c.faulty.ensures) c.rest-rest.ensures

pub decisions_of-requires-clause-rest : goal.decisions_of-requires-clause-rest
decisions_of-requires-clause-rest c = rw (← c.header.ensures.value, ← c.net.ensures.value, ← c.faulty.ensures) c.rest-rest.ensures

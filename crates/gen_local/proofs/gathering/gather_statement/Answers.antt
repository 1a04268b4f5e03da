use Rattle.gen_local.proofs.SignedTests.{signed_told}
use Rattle.gen_local.proofs.gathering.gather_statement.Goals as goal

pub returns-clause-told : goal.returns-clause-told
returns-clause-told c = signed_told c.args.header.now c.args.signer c.args.statement c.args.signature.now c.in_ok-verifies.verifies c.in_ok-verifies.ensures.answer

pub returns-clause-texts : goal.returns-clause-texts
returns-clause-texts c =
    let told = signed_told c.args.header.now c.args.signer c.args.statement c.args.signature.now c.in_ok-verifies.verifies c.in_ok-verifies.ensures.answer in
    rw told at c.in_ok-put_if.ensures

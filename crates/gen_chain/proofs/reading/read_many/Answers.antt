use Rattle.std.proofs.lemmas.Result.{err_from_is_err_and}
use Rattle.gen_types.proofs.ManyFields.{goes_on, ends, is_done}
use Rattle.gen_chain.specs.ChainReading.{signer_at}
use Rattle.gen_chain.proofs.reading.read_many.Goals as goal

pub returns-in_err-signer : goal.returns-in_err-signer
returns-in_err-signer c =
    let p = err_from_is_err_and c.from_residual-in_err-signer.result c.from_residual-in_err-signer.ensures.1 in
    rw (p.1, p.2) (ends (signer_at c.args.height) c.in_err-signer.field-0.0 c.loop.signers.items c.args.count c.loop.counter c.loop.rest.now _ c.loop-test.true c.in_err-signer.ensures c.loop.invariant)

pub loop-preserved : goal.loop-preserved
loop-preserved c =
    rw c.in_ok-push.ensures.items (goes_on (signer_at c.args.height) c.loop.signers.items c.args.count c.loop.counter c.loop.rest.now c.in_ok-signer.signer c.in_ok-signer.after.now _ c.loop-test.true c.in_ok-signer.ensures c.loop.invariant)

pub returns : goal.returns
returns c = is_done (signer_at c.args.height) c.loop.signers.items c.args.count c.loop.counter c.loop.rest.now _ c.loop-test.false c.loop.invariant

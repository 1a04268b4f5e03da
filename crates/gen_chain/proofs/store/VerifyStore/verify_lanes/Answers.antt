use Rattle.std.proofs.Common.{arith}
use Rattle.gen_chain.proofs.StoredInTurn.{kept_more, right_at}
use Rattle.gen_chain.proofs.store.VerifyStore.verify_lanes.Goals as goal

pub returns-in_err-add_answer-clause-grows : goal.returns-in_err-add_answer-clause-grows
returns-in_err-add_answer-clause-grows c =
    let right = right_at c.args.header.now c.args.signings.now c.have_signed-answers.result c.places.place c.index-signings-place.result (omega arith) c.index-signings-place.is c.have_signed-answers.ensures in
    let added = c.add_answer.ensures.serves c.args.header.now c.places.invariant.serves right in
    λ t answer e. added.1 t answer (c.places.invariant.grows t answer e)

pub returns-in_err-add_answer-clause-serves : goal.returns-in_err-add_answer-clause-serves
returns-in_err-add_answer-clause-serves c =
    let right = right_at c.args.header.now c.args.signings.now c.have_signed-answers.result c.places.place c.index-signings-place.result (omega arith) c.index-signings-place.is c.have_signed-answers.ensures in
    (c.add_answer.ensures.serves c.args.header.now c.places.invariant.serves right).0

pub places-preserved : goal.places-preserved
places-preserved c =
    let right = right_at c.args.header.now c.args.signings.now c.have_signed-answers.result c.places.place c.index-signings-place.result (omega arith) c.index-signings-place.is c.have_signed-answers.ensures in
    let added = c.add_answer.ensures.serves c.args.header.now c.places.invariant.serves right in
    record {
      serves = added.0;
      grows = λ t answer e. added.1 t answer (c.places.invariant.grows t answer e);
      count = omega (arith, c.places.invariant.count, c.add_answer.ensures.count);
      kept = kept_more c.places.self c.add_answer.new.self c.args.signings.now c.places.place c.index-signings-place.result (omega arith) c.index-signings-place.is added.1 c.in_ok-add_answer.ensures.kept c.places.invariant.kept;
    }

use Rattle.std.proofs.Common.{◌≤◌, length}
use Rattle.std.proofs.lemmas.List.{nil_from_length}
use Rattle.gen_chain.specs.Chain.{signed_path}
use Rattle.gen_chain.proofs.DistinctPaths.{AreDistinct, next_fits, next_is_new}
use Rattle.gen_local.proofs.GatheredTexts.{one_signer_more, all_signers_told, all_signers_gathered}
use Rattle.gen_local.proofs.gathering.gather_entry.Goals as goal

pub push_new-requires-clause-room : goal.push_new-requires-clause-room
push_new-requires-clause-room c =
    let signers = c.signers-rest.result.now in
    let few : length signers ≤ 16 = rw c.signers-rest.ensures c.height-height.ensures.few in
    next_fits c.loop-signer.path c.loop-signer.rest.now c.in-Some-split_first.others.now signers c.in-Some-split_first.signer.now few c.in-Some-split_first.ensures.cases.0 c.loop-signer.invariant.2.joined

pub push_new-requires-clause-new : goal.push_new-requires-clause-new
push_new-requires-clause-new c =
    let signers = c.signers-rest.result.now in
    let apart : AreDistinct (signed_path signers) = rw c.signers-rest.ensures c.height-height.ensures.distinct in
    next_is_new c.loop-signer.path c.loop-signer.rest.now c.in-Some-split_first.others.now signers c.in-Some-split_first.signer.now apart c.in-Some-split_first.ensures.cases.0 c.loop-signer.invariant.2.joined

pub loop-signer-preserved : goal.loop-signer-preserved
loop-signer-preserved c = (c.in_ok-all-in-Recv.ensures.serves, λ t answer kept. c.in_ok-all-in-Recv.ensures.grows t answer (c.loop-signer.invariant.1 t answer kept), one_signer_more _ _ _ _ _ _ _ _ _ _ _ _ _ c.in-Some-split_first.ensures.cases.0 c.push_new.ensures c.in_ok-all-in-Recv.ensures.told c.in_ok-all-in-Recv.ensures.texts c.loop-signer.invariant.2)

pub returns-in_default-split_first-clause-told : goal.returns-in_default-split_first-clause-told
returns-in_default-split_first-clause-told c =
    let told = all_signers_told _ _ _ _ _ _ _ _ (nil_from_length _ c.in_default-split_first.ensures.cases) c.loop-signer.invariant.2 in
    rw c.in-Recv.is (rw (c.order-order.ensures.value, c.signers-rest.ensures) at told)

pub returns-in_default-split_first-clause-texts : goal.returns-in_default-split_first-clause-texts
returns-in_default-split_first-clause-texts c =
    let gathered = all_signers_gathered _ _ _ _ _ _ _ _ (nil_from_length _ c.in_default-split_first.ensures.cases) c.loop-signer.invariant.2 in
    rw c.in-Recv.is (rw (c.order-order.ensures.value, c.signers-rest.ensures) at gathered)

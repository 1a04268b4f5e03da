use Rattle.std.proofs.Common.{◌≡◌, ◌↔◌, ◌<◌, IsTrue, Bool, arith, ap, ◌∙◌}
use Rattle.std.proofs.lemmas.Result.{IfOk-weaker}
use Rattle.gen_chain.specs.Verifying.{EachHasSigned}
use Rattle.gen_chain.proofs.store.VerifyStore.chain_verifies.Goals as goal

pub returns-clause-answer : goal.returns-clause-answer
returns-clause-answer c =
    let signers : c.deref.result.now ≡ c.args.chain.now.signers = c.deref.ensures.value ∙ ap (λ k. k.signers) c.chain.view_is in
    let order : c.chain.inside.order ≡ c.args.chain.now.order = ap (λ k. k.order) c.chain.view_is in
    let below : c.args.chain.now.order < c.args.header.now.network.orders = omega (arith, c.if-get-orders.false, c.get.ensures.value, c.orders.ensures.value, ap (λ n. n.orders) c.net.ensures.value, order) in
    IfOk-weaker c.are_signed.result _ _ (λ (answer : Bool) (h : IsTrue answer ↔ EachHasSigned c.args.header.now c.chain.inside.order c.deref.result.now).
    let g : IsTrue answer ↔ EachHasSigned c.args.header.now c.args.chain.now.order c.args.chain.now.signers = rw (signers, order) at h in
    (λ t. (below, g.0 t), λ v. g.1 v.1)) c.are_signed.ensures.value

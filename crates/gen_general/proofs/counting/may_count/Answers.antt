use Rattle.std.proofs.Common.{◌≡◌, ◌↔◌, IsTrue, Bool, Contains, length, refl, sym, ap, ◌∙◌}
use Rattle.std.proofs.lemmas.Result.{IfOk-weaker}
use Rattle.gen_types.specs.Ends.{EndsWith}
use Rattle.gen_chain.specs.Chain.{signed_path}
use Rattle.gen_chain.specs.Verifying.{ChainVerifies}
use Rattle.gen_general.proofs.counting.may_count.Goals as goal

pub returns-clause-value : goal.returns-clause-value
returns-clause-value c =
    let path = signed_path c.args.chain.now.signers in
    let in_time : length path ≡ c.args.delivery.now.round = ap length (sym c.path-path.ensures) ∙ (sym c.len.ensures.length ∙ (c.if-len-from.false ∙ c.from.ensures)) in
    let from_sender : EndsWith path c.args.delivery.now.from = rw c.path-path.ensures at (c.if-not-ends_with.ensures.0 refl) in
    let outside : Contains path c.args.delivery.now.to → ⊥ = λ has. (let t = c.if-contains.ensures.1 (rw c.path-path.ensures has) in absurd cc) in
    IfOk-weaker c.chain_verifies.result _ _ (λ (may : Bool) (h : IsTrue may ↔ ChainVerifies c.args.header.now c.args.chain.now).
    (λ t. record { verifies = h.0 t; in_time = in_time; from_sender = from_sender; outside = outside }, λ m. h.1 m.verifies)) c.chain_verifies.ensures.answer
